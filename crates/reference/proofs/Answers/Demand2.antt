-- Demand 2 shown, of every call of the reference judge, the reader and the writer. The statement is Demand2 of specs/Demand2.antt.
use Prim.Native.Nat.{ℕ, ◌<◌, ◌≤◌}
use mathlib.Core.Path.{◌≡◌, refl, sym, ap, subst, ◌∙◌}
use mathlib.Core.Bool.{Bool, true, false≢true}
use mathlib.Core.List.{List}
use mathlib.Core.Logic.{◌↔◌, ◌≢◌, inl, inr}
use native.Mathlib.Omega.{arith}
use native.Mathlib.Decide.{dec_lt}
use borrow.Author.Tests.{lt-ltb, le-ltb}
use Rattle.sheet.specs.Bytes.{pick}
use Rattle.sheet.specs.Contents.{plan_body}
use Rattle.sheet.specs.Plan.{state_count}
use Rattle.sheet.specs.Reading.{sheet_check}
use Rattle.std.specs.Prelude.{Result, Err, Ok}
use Rattle.sheet.specs.Refusals.{Check}
use Rattle.sheet.specs.declared.Refusal.{Refusal}
use Rattle.sheet.specs.declared.Refusal.TheVariants.{TooManyStates}
use Rattle.sheet.specs.Refusals.{number_of}
use Rattle.sheet.specs.WellFormed.{WellFormedSheet}
use Rattle.sheet.proofs.Acceptance.Numbers.{low_refusal, refused_number}
use Rattle.sheet.proofs.Acceptance.Order.{given_in_order}
use Rattle.sheet.proofs.Acceptance.Sheet.{not_refused}
use Rattle.sheet.proofs.Acceptance.Parts.{sheet_kept}
use Rattle.sheet.proofs.Roundtrip.Promises.{round_trip}
use Rattle.calculus.specs.MeetingMask.{bit}
use Rattle.calculus.specs.Verdict.{Verdict}
use Rattle.calculus.proofs.Table1.Verdicts.{verdict_below, verdict_decided}
use Rattle.reference.specs.Reference.{in_meaning, meaning_word, answer_reference, reference_of, ReferenceReport, reported_reference, reference_report_of, ByTable1}
use Rattle.reference.specs.Demand2.{ReportedBySheet, Demand2}
use Rattle.reference.proofs.Words.Words.{word_bit, word_high}

module _ (s : List ℕ) where
  -- the promised answer, case by case
  pub promised_refused : (x : Refusal) → sheet_check s ≡ Err x → Err x ≡ reference_of s
  unfolding reference_of
  promised_refused x e = ap (answer_reference s) (sym e)

  pub promised_large : sheet_check s ≡ Ok tt → 64 < state_count (plan_body s) → Err TooManyStates ≡ reference_of s
  unfolding reference_of
  promised_large e h = ap (λ (b : Bool). pick b (Err TooManyStates) (Ok (meaning_word s))) (sym (lt-ltb 64 (state_count (plan_body s)) h)) ∙ ap (answer_reference s) (sym e)

  pub promised_word : sheet_check s ≡ Ok tt → state_count (plan_body s) ≤ 64 → Ok (meaning_word s) ≡ reference_of s
  unfolding reference_of
  promised_word e h = ap (λ (b : Bool). pick b (Err TooManyStates) (Ok (meaning_word s))) (sym (le-ltb 64 (state_count (plan_body s)) h)) ∙ ap (answer_reference s) (sym e)

  -- the bits of the promised word
  word_bits : sheet_check s ≡ Ok tt → (t : ℕ) → (bit (meaning_word s) t ≡ true) ↔ Verdict s t
  unfolding meaning_word in_meaning
  word_bits e t = (to, λ v. let l = verdict_below s t v in word_bit (state_count (plan_body s)) (in_meaning s) t l ∙ (verdict_decided (sheet_kept s e) t l).0 v)
    where
      to : bit (meaning_word s) t ≡ true → Verdict s t
      to b =
          elim (dec_lt t (state_count (plan_body s))) [
            | yes l ↦ (verdict_decided (sheet_kept s e) t l).1 (sym (word_bit (state_count (plan_body s)) (in_meaning s) t l) ∙ b)
            | no h ↦ absurd (false≢true (sym (word_high (state_count (plan_body s)) (in_meaning s) t (omega arith)) ∙ b))
          ]

  by_table1 : ByTable1 s (reference_of s)
  by_table1 = record {
    accepted = λ e h. record { word = meaning_word s; is = sym (promised_word e h); bits = word_bits e };
    large = λ e h. sym (promised_large e h);
    refused = λ x e. sym (promised_refused x e);
  }

  -- what is reported of it
  reported : ReportedBySheet s (reference_report_of s)
  reported = record {
    accepted = λ e h. ap reported_reference (sym (promised_word e h));
    large = λ e h. ap reported_reference (sym (promised_large e h));
    refused = λ x e. ap reported_reference (sym (promised_refused x e));
    zero = (by_check (sheet_check s) refl).0;
    thirteen = (by_check (sheet_check s) refl).1;
    in_order = given_in_order s (reference_report_of s).number (reference_report_of s).place
        (λ x e. let q = ap reported_reference (sym (promised_refused x e)) in (ap (λ (a : ReferenceReport). a.number) q, ap (λ (a : ReferenceReport). a.place) q))
        (λ e. elim (dec_lt 64 (state_count (plan_body s))) [
          | yes h ↦ inr (let n : (reference_report_of s).number ≡ 13 = ap (λ (a : Result ℕ Refusal). (reported_reference a).number) (sym (promised_large e h)) in omega arith)
          | no h ↦ inl (ap (λ (a : Result ℕ Refusal). (reported_reference a).number) (sym (promised_word e (omega arith))))
        ]);
  }
    where
      number : {r : Result ℕ Refusal} → r ≡ reference_of s → (reference_report_of s).number ≡ (reported_reference r).number
      number q = ap (λ (a : Result ℕ Refusal). (reported_reference a).number) (sym q)

      Numbers : Type 0
      Numbers =
          (((reference_report_of s).number ≡ 0) ↔ (WellFormedSheet s × (state_count (plan_body s) ≤ 64)))
          × (((reference_report_of s).number ≡ 13) ↔ (WellFormedSheet s × (64 < state_count (plan_body s))))

      by_check : (c : Check) → sheet_check s ≡ c → Numbers
      by_check (Ok tt) e =
          elim (dec_lt 64 (state_count (plan_body s))) [
            | yes h ↦ (
              (λ q. absurd (omega (arith, number (promised_large e h))), λ w. absurd (omega (arith, w.1))),
              (λ q. (sheet_kept s e, h), λ w. number (promised_large e h)),
            )
            | no h ↦ (
              (λ q. (sheet_kept s e, omega arith), λ w. number (promised_word e (omega arith))),
              (λ q. absurd (omega (arith, number (promised_word e (omega arith)))), λ w. absurd (omega (arith, w.1))),
            )
          ]
      by_check (Err x) e =
          let n : (reference_report_of s).number ≡ number_of x = number (promised_refused x e) in (
            (λ q. absurd (omega (arith, refused_number x)), λ w. absurd (not_refused s e w.0)),
            (λ q. absurd (omega (arith, low_refusal s e)), λ w. absurd (not_refused s e w.0)),
          )

-- a report with a refusal's number has the word 0
refused_word : (r : Result ℕ Refusal) → (reported_reference r).number ≢ 0 → (reported_reference r).word ≡ 0
refused_word (Ok w) n = absurd (n refl)
refused_word (Err x) n = refl

pub demand2 : Demand2
demand2 = record {
  calls = λ s r c. record { answer = subst (ByTable1 s) (sym c.0) (by_table1 s); report = subst (ReportedBySheet s) (sym c.1) (reported s); zero = refused_word r };
  round_trip = round_trip;
}
