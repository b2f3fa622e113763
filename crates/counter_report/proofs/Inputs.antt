-- What was read of a file: how much of it, its count, its states and its sheet.
use Prim.Native.Nat.{ℕ, ◌+◌, ◌-◌, ◌≤◌, min}
use mathlib.Core.Path.{◌≡◌, sym, ap, ◌∙◌}
use mathlib.Core.List.{List, [], ◌++◌}
use native.Mathlib.Omega.{arith}
use native.Mathlib.Decide.{dec_le, dec_lt}
use lib.ListN.{length, take, drop, replicate, length-append, length-take, length-drop, length-replicate, get_or-replicate, drop_of_length-le, get_or-append, get_or-eq_default}
use lib.Seq.{length-take-le, get_or-drop, get_or-append-add, take-add, drop_at, take-append-le, take-take}
use Rattle.sheet.specs.Bytes.{byte}
use Rattle.sheet.specs.RunningCalls.{AllBytes}
use Rattle.sheet.proofs.Acceptance.Parts.{slice_small}
use Rattle.counter_report.specs.Input.{input_count, input_states, input_sheet}

-- ---- the parts of what was read

pub drop_take : (k m : ℕ) (l : List ℕ) → k ≤ length l → drop k (take (k + m) l) ≡ take m (drop k l)
drop_take k m l h = ap (drop k) (take-add k m l) ∙ drop_at (take k l) (take m (drop k l)) k (length-take-le k l h)

-- as many states as the count says
pub states_length : (file : List ℕ) → length (input_states file) ≡ input_count file
states_length file =
    length-take-le (input_count file) (drop 1 file ++ replicate (input_count file) 0)
    (omega (arith, length-append (drop 1 file) (replicate (input_count file) 0), length-replicate {A = ℕ} (input_count file) 0))

-- zeros behind a list change none of its bytes, since past its end they read as 0
zeros_byte : (n i : ℕ) → byte (replicate n 0) i ≡ 0
zeros_byte n i = elim (dec_lt i n) [
  | yes h ↦ get_or-replicate n i 0 0 h
  | no h ↦ get_or-eq_default (replicate n 0) 0 {n = i} (omega (arith, length-replicate {A = ℕ} n 0))
]

padded_byte : (l : List ℕ) (n i : ℕ) → byte (l ++ replicate n 0) i ≡ byte l i
padded_byte l n i = elim (dec_lt i (length l)) [
  | yes h ↦ get_or-append l (replicate n 0) 0 i h
  | no h ↦
      let there : i ≡ length l + (i - length l) = omega arith in
      ap (byte (l ++ replicate n 0)) there
      ∙ get_or-append-add l (replicate n 0) (i - length l) 0
      ∙ zeros_byte n (i - length l)
      ∙ sym (get_or-eq_default l 0 {n = i} (omega arith))
]

-- the states of a list of bytes are bytes
pub states_bytes : (file : List ℕ) → AllBytes file → AllBytes (input_states file)
states_bytes file bytes = record {
  at = slice_small (drop 1 file ++ replicate (input_count file) 0)
      (λ i. omega (arith, padded_byte (drop 1 file) (input_count file) i, get_or-drop 1 file i 0, bytes.at (1 + i))) 0 (input_count file);
}

-- of a file cut behind its states, the states are its own
pub states_cut : (k m : ℕ) (l : List ℕ) → 1 + k ≤ length l → take k (drop 1 (take (1 + (k + m)) l) ++ replicate k 0) ≡ take k (drop 1 l)
states_cut k m l h =
    ap (λ (x : List ℕ). take k (x ++ replicate k 0)) (drop_take 1 (k + m) l (omega arith))
    ∙ take-append-le k (take (k + m) (drop 1 l)) (replicate k 0) (omega (arith, length-take (k + m) (drop 1 l), length-drop 1 l))
    ∙ take-take k (k + m) (drop 1 l) (omega arith)

module _ (buffer : List ℕ) (n : ℕ) (among : n ≤ length buffer) where
  abbrev taken : List ℕ
  taken = take n buffer

  abbrev count : ℕ
  count = input_count taken

  pub no_sheet : n ≤ 1 + count → input_sheet taken ≡ []
  no_sheet h = drop_of_length-le taken {i = 1 + count} (omega (arith, length-take-le n buffer among))

  pub sheet_taken : (start : ℕ) → start ≡ min (1 + count) n → take (n - start) (drop start buffer) ≡ input_sheet taken
  sheet_taken start e = elim (dec_le (1 + count) n) [
    | yes h ↦
        let s : start ≡ 1 + count = omega arith in
        let whole : 1 + count + (n - (1 + count)) ≡ n = omega arith in
        ap (λ (k : ℕ). take (n - k) (drop k buffer)) s
        ∙ sym (drop_take (1 + count) (n - (1 + count)) buffer (omega arith))
        ∙ ap (λ (k : ℕ). drop (1 + count) (take k buffer)) whole
    | no h ↦
        let none : n - start ≡ 0 = omega arith in
        ap (λ (k : ℕ). take k (drop start buffer)) none ∙ sym (no_sheet (omega arith))
  ]

  pub states_taken : 1 + count ≤ n → take count (drop 1 buffer) ≡ input_states taken
  states_taken h =
      let whole : 1 + (count + (n - (1 + count))) ≡ n = omega arith in
      sym (ap (λ (k : ℕ). take count (drop 1 (take k buffer) ++ replicate count 0)) (sym whole)
      ∙ states_cut count (n - (1 + count)) buffer (omega arith))
