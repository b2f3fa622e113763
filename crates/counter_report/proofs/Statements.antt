-- The program is right about every list of bytes.
use Prim.Native.Nat.{ℕ, ◌+◌, ◌<◌, ◌≤◌}
use mathlib.Core.Path.{◌≡◌, refl, sym, ap, subst, ◌∙◌}
use mathlib.Core.List.{List, [], ◌∷◌}
use mathlib.Core.Logic.{inl, inr}
use native.Mathlib.Omega.{arith}
use native.Mathlib.Decide.{dec_le}
use lib.ListN.{length, take, drop_of_length-le}
use Rattle.text.specs.Placing.{Puts}
use Rattle.text.proofs.Placing.{puts_taken}
use Rattle.sheet.specs.Reading.{sheet_check}
use Rattle.sheet.specs.RunningCalls.{AllBytes}
use Rattle.sheet.specs.declared.Refusal.TheVariants.{TooShort}
use Rattle.std.specs.Prelude.{Err, Ok}
use Rattle.sheet.specs.Refusals.{Check}
use Rattle.sheet.proofs.Acceptance.Numbers.{low_refusal}
use Rattle.sheet.proofs.Limits.ByteLists.{bytes_nil, bytes_cons}
use Rattle.calculus.specs.KeySheet.{K}
use Rattle.judge.proofs.Statements.SheetsToTry.{sheets_to_try}
use Rattle.report.specs.Text.{text_of}
use Rattle.report.specs.Reporting.{Report, most_queries, report_text, table_reported, output_reported, reported_text, WritesReport}
use Rattle.report.specs.ReportCorrect.{ReportCorrect}
use Rattle.report.specs.ReportsToTry.{key_text}
use Rattle.report.proofs.Statements.ReportCorrect.{reports_correct}
use Rattle.report.proofs.Statements.ReportsToTry.{reports_to_try}
use Rattle.counter_report.specs.Input.{input_count, input_states, input_sheet}
use Rattle.counter_report.specs.Program.{own_table, own_output, report_on, text_on, program_text, RightText, ProgramCorrect, EndsEarly, ProgramNumbers, KeyPrinted}
use Rattle.counter_report.proofs.Inputs.{states_length, states_bytes}
use Rattle.counter_report.proofs.Answers.{own_table_lem, own_output_lem, report_many, report_refused, report_written, text_of_lem, text_alike, empty_sheet}
use Rattle.counter_report.proofs.Texts.{written_puts}
use Rattle.counter_report.proofs.Cutting.{many_text}

-- the report on an accepted sheet
module _ (s states : List ℕ) (few : length states ≤ most_queries) (bytes : AllBytes states) (e : sheet_check s ≡ Ok tt) where
  abbrev table : List ℕ
  table = table_reported s states own_table own_output

  abbrev output : List ℕ
  output = output_reported s states own_table own_output

  reported : WritesReport s states own_table own_output (report_on s states) table output
  reported = (refl, (refl, (refl, (refl, bytes))))

  written : report_on s states ≡ Ok (length (report_text s states own_table))
  written = report_written s states few e

  -- the text that it puts is what is printed
  text_put : (text : List ℕ) → Puts text (reported_text (report_on s states)).size own_output output → text_on s states ≡ text
  text_put text p =
      sym (puts_taken (text_on s states) own_output (written_puts s states own_output own_output_lem reported written).1)
      ∙ ap (λ (r : Report). take (reported_text r).size output) (sym written)
      ∙ puts_taken text own_output p

  report_right : ReportCorrect s states own_table own_output (reported_text (report_on s states)).size table output
  report_right = reports_correct.texts s states own_table own_output (report_on s states) table output reported (ap (λ (r : Report). (reported_text r).number) written)

module _ (file : List ℕ) where
  abbrev sheet : List ℕ
  sheet = input_sheet file

  abbrev states : List ℕ
  states = input_states file

  module _ (few : input_count file ≤ most_queries) where
    among : length states ≤ most_queries
    among = omega (arith, states_length file)

    right : AllBytes file → (c : Check) → sheet_check sheet ≡ c → RightText file (program_text file)
    right bytes (Ok tt) e =
        let r = report_right sheet states among (states_bytes file bytes) e in
        subst (RightText file) (sym (text_put sheet states among (states_bytes file bytes) e (text_of states r.answers) r.text)) (RightText.reported few e r)
    right bytes (Err x) e = subst (RightText file) (sym (text_of_lem sheet states (report_refused sheet states among e))) (RightText.unreadable few e)

    numbered : (c : Check) → sheet_check sheet ≡ c → (reported_text (report_on sheet states)).number ≤ 10
    numbered (Ok tt) e = rw (report_written sheet states among e) (omega arith)
    numbered (Err x) e = rw (report_refused sheet states among e) (low_refusal sheet e)

pub program_correct : ProgramCorrect
program_correct file bytes = elim (dec_le (input_count file) most_queries) [
  | yes h ↦ right file h bytes (sheet_check (input_sheet file)) refl
  | no h ↦ let many : most_queries < input_count file = omega arith in subst (RightText file) (sym (many_text file many)) (RightText.too_many many)
]

pub program_numbers : ProgramNumbers
program_numbers file = elim (dec_le (input_count file) most_queries) [
  | yes h ↦ inl (numbered file h (sheet_check (input_sheet file)) refl)
  | no h ↦ inr (ap (λ (r : Report). (reported_text r).number) (report_many (input_sheet file) (input_states file) (omega (arith, states_length file))))
]

-- ---- an input that ends too early

no_sheet : (file : List ℕ) → length file ≤ 1 + input_count file → input_sheet file ≡ []
no_sheet file short = drop_of_length-le file {i = 1 + input_count file} short

too_short : (file : List ℕ) → length file ≤ 1 + input_count file → sheet_check (input_sheet file) ≡ Err TooShort
too_short file short = ap sheet_check (no_sheet file short) ∙ empty_sheet

pub ends_early : EndsEarly
ends_early = record {
  as_empty = λ file states short same.
      let other = input_count file ∷ states in
      let short' : length other ≤ 1 + input_count other = omega arith in
      text_alike (input_sheet file) (input_states file) (input_states other) TooShort (too_short file short) (states_length file ∙ sym (states_length other))
      ∙ ap (λ (s : List ℕ). text_on s (input_states other)) (no_sheet file short ∙ sym (no_sheet other short'));
  one = λ file short few.
      text_of_lem (input_sheet file) (input_states file) (report_refused (input_sheet file) (input_states file) (omega (arith, states_length file)) (too_short file short));
}

-- ---- the key sheet

abbrev three : List ℕ
three = 0 ∷ 1 ∷ 2 ∷ []

three_bytes_lem : AllBytes three
three_bytes_lem = bytes_cons (omega arith) (bytes_cons (omega arith) (bytes_cons (omega arith) bytes_nil))

pub key_printed : KeyPrinted
key_printed =
    let few : length three ≤ most_queries = omega arith in
    let accepted = sheets_to_try.p3.accepted in
    text_put K three few three_bytes_lem accepted key_text
    (reports_to_try.key own_table own_output (omega (arith, own_table_lem)) own_output_lem (report_on K three) (table K three few three_bytes_lem accepted) (output K three few three_bytes_lem accepted)
    (reported K three few three_bytes_lem accepted)).1
