-- A file cut behind the bytes that are needed has the text of the whole.
use Prim.Native.Nat.{ℕ, ◌+◌, ◌-◌, ◌<◌, ◌≤◌, min}
use mathlib.Core.Path.{◌≡◌, sym, ap, ap₂, ◌∙◌}
use mathlib.Core.List.{List, ◌++◌}
use native.Mathlib.Omega.{arith}
use native.Mathlib.Decide.{dec_le}
use lib.ListN.{length, take, drop, replicate, length-drop}
use lib.Seq.{take_all, take-append-le, get_or-take, length-take-le}
use lib.Dec.{leb}
use borrow.Author.Tests.{le-leb, lt-leb}
use Rattle.text.specs.RefusalLine.{refusal_line}
use Rattle.sheet.specs.Bytes.{pick}
use Rattle.sheet.specs.Contents.{longest}
use Rattle.sheet.specs.Refusals.{number_of, place_of}
use Rattle.sheet.specs.Reading.{sheet_check}
use Rattle.sheet.specs.declared.Refusal.{Refusal}
use Rattle.sheet.specs.declared.Refusal.TheVariants.{TooShort}
use Rattle.sheet.proofs.Limits.LongFiles.{cut_answered}
use Rattle.report.specs.Reporting.{most_queries}
use Rattle.counter_report.specs.Input.{input_count, input_states, input_sheet}
use Rattle.counter_report.specs.Program.{text_on, program_text}
use Rattle.counter_report.specs.Buffers.{CutChangesNothing, HoldsStart}
use Rattle.counter_report.proofs.Inputs.{drop_take, states_length, states_cut, no_sheet, sheet_taken, states_taken}
use Rattle.counter_report.proofs.Answers.{report_many, text_of_lem, text_refused, text_alike, empty_sheet}

-- the text of the parts of a list of bytes, k of them states
text_with : ℕ → List ℕ → List ℕ
text_with k l = text_on (drop (1 + k) l) (take k (drop 1 l ++ replicate k 0))

-- cut behind its states and one byte more than the longest sheet
long_cut : (k : ℕ) (l : List ℕ) → text_with k (take (1 + (k + (longest + 1))) l) ≡ text_with k l
unfolding text_with
long_cut k l = elim (dec_le (length l) (1 + (k + (longest + 1)))) [
  | yes h ↦ ap (text_with k) (take_all (1 + (k + (longest + 1))) l h)
  | no h ↦
      let there : 1 + (k + (longest + 1)) ≡ 1 + k + (longest + 1) = omega arith in
      ap₂ text_on (ap (λ (j : ℕ). drop (1 + k) (take j l)) there ∙ drop_take (1 + k) (longest + 1) l (omega arith)) (states_cut k (longest + 1) l (omega arith))
      ∙ cut_answered (longest + 1) (drop (1 + k) l) (omega arith) (λ (s : List ℕ). text_on s (take k (drop 1 l)))
      (λ (x : Refusal). pick (leb (length (take k (drop 1 l))) most_queries) (refusal_line (number_of x) (place_of x)) (refusal_line 36 0)) (λ s x e. text_refused s (take k (drop 1 l)) x e)
      ∙ ap (text_on (drop (1 + k) l)) (sym (take-append-le k (drop 1 l) (replicate k 0) (omega (arith, length-drop 1 l))))
]

pub many_text : (file : List ℕ) → most_queries < input_count file → program_text file ≡ refusal_line 36 0
many_text file h = text_of_lem (input_sheet file) (input_states file) (report_many (input_sheet file) (input_states file) (omega (arith, states_length file)))

pub cut_changes_nothing : CutChangesNothing
unfolding text_with
cut_changes_nothing file = elim (dec_le (input_count file) most_queries) [
  | yes h ↦
      let count = get_or-take (1 + (input_count file + (longest + 1))) file 0 0 (omega arith) in
      rw (le-leb (input_count file) most_queries h)
      (ap (λ (k : ℕ). text_with k (take (1 + (input_count file + (longest + 1))) file)) count ∙ long_cut (input_count file) file)
  | no h ↦
      let count = get_or-take 1 file 0 0 (omega arith) in
      rw (lt-leb (input_count file) most_queries (omega arith)) (many_text (take 1 file) (omega (arith, count)) ∙ sym (many_text file (omega arith)))
]

-- what was read into a buffer has the text of its file
module _ (buffer : List ℕ) (n : ℕ) (among : n ≤ length buffer) where
  abbrev read : List ℕ
  read = take n buffer

  text_read : (start : ℕ) → start ≡ min (1 + input_count read) n → 1 + input_count read ≤ length buffer
      → text_on (take (n - start) (drop start buffer)) (take (input_count read) (drop 1 buffer)) ≡ program_text read
  text_read start e room =
      ap (λ (s : List ℕ). text_on s (take (input_count read) (drop 1 buffer))) (sheet_taken buffer n among start e)
      ∙ elim (dec_le (1 + input_count read) n) [
        | yes h ↦ ap (text_on (input_sheet read)) (states_taken buffer n among h)
        | no h ↦
            text_alike (input_sheet read) (take (input_count read) (drop 1 buffer)) (input_states read) TooShort
            (ap sheet_check (no_sheet buffer n among (omega arith)) ∙ empty_sheet)
            (length-take-le (input_count read) (drop 1 buffer) (omega (arith, length-drop 1 buffer)) ∙ sym (states_length read))
      ]

  -- the sheet from start on, and as many states as the count
  pub held_text : (file : List ℕ) (count start end : ℕ) → HoldsStart file buffer n → count ≡ input_count read → start ≡ min (1 + count) n → end ≡ 1 + count
      → end ≤ length buffer → text_on (take (n - start) (drop start buffer)) (take (end - 1) (drop 1 buffer)) ≡ program_text file
  held_text file count start end h c s e room =
      let size : end - 1 ≡ input_count read = omega arith in
      ap (λ (k : ℕ). text_on (take (n - start) (drop start buffer)) (take k (drop 1 buffer))) size
      ∙ text_read start (s ∙ ap (λ (k : ℕ). min (1 + k) n) c) (omega arith)
      ∙ ap program_text h
      ∙ cut_changes_nothing file
