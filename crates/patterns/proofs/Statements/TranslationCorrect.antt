-- What every call of `translate` answers, leaves and means. The statement is TranslationCorrect of specs/TranslationCorrect.antt.
use Prim.Native.Nat.{ℕ, ◌≤◌}
use mathlib.Core.Path.{◌≡◌, refl, sym, ap, subst, subst₂, ◌∙◌}
use mathlib.Core.Bool.{Bool}
use mathlib.Core.List.{List}
use mathlib.Core.Logic.{◌⊎◌, inl, inr}
use native.Mathlib.Omega.{arith}
use native.Mathlib.Decide.{dec_lt}
use lib.ListN.{length, take}
use lib.Seq.{take_at}
use Rattle.sheet.specs.Actions.{entry_count}
use Rattle.sheet.specs.Contents.{actions_body}
use Rattle.sheet.specs.Refusals.{number_of, place_of, reported_check}
use Rattle.sheet.specs.Reading.{sheet_check}
use Rattle.sheet.specs.WellFormed.{WellFormedSheet}
use Rattle.sheet.specs.RefusalOrder.{SheetFault, First}
use Rattle.std.specs.Prelude.{Err, Ok}
use Rattle.sheet.specs.Refusals.{Check}
use Rattle.sheet.specs.declared.Refusal.TheVariants.{OutputShort}
use Rattle.sheet.proofs.Acceptance.Numbers.{refused_number}
use Rattle.sheet.proofs.Acceptance.Order.{refusals_in_order, sheet_range}
use Rattle.sheet.proofs.Acceptance.Sheet.{accepted_iff}
use Rattle.calculus.specs.Trees.{tree_size, binders, encode}
use Rattle.patterns.specs.Patterns.{Pattern, Reading, malformed, readable}
use Rattle.patterns.specs.Translating.{Translated, tree_for, translated_of, reported_translation, translation_report_of, output_after}
use Rattle.patterns.specs.TranslationCorrect.{
  Says,
  Fits,
  RefusedWith,
  AcceptedWith,
  MeansSentence,
  TranslationAnswered,
  TranslationCorrect,
}
use Rattle.patterns.specs.declared.TranslateError.TheVariants.{Malformed, TooLarge, Refused}
use Rattle.patterns.proofs.Reading.Readings.{readings_exactly}
use Rattle.patterns.proofs.Statements.Answers.{
  reading_on,
  answers_refused,
  answers_malformed,
  answers_large,
  answers_short,
  answers_wrote,
  leaves_written,
  leaves_unchanged,
}
use Rattle.patterns.proofs.Statements.NewRule.{means_sentence}

module _ (s p : List ℕ) where
  passed : WellFormedSheet s → sheet_check s ≡ Ok tt
  passed = (accepted_iff s).1

  -- what a pattern says is its reading
  read_as : {every : Bool} {R : Pattern} → Says s p every R → reading_on s p ≡ readable every R
  read_as {every} {R} h = (readings_exactly (entry_count (actions_body s)) p every R).1 (h.bytes, h.entries_below)

  says : {every : Bool} {R : Pattern} → WellFormedSheet s → reading_on s p ≡ readable every R → Says s p every R
  says {every} {R} kept q =
      let r = (readings_exactly (entry_count (actions_body s)) p every R).0 q in
      record { accepted = kept; bytes = r.0; entries_below = r.1 }

  module _ (room : ℕ) where
    -- ---- every call is refused with a number, or accepted

    abbrev Decided : Type 0
    Decided = ((k : ℕ) × (m : ℕ) × RefusedWith s p room k m) ⊎ ((every : Bool) × (R : Pattern) × AcceptedWith s p room every R)

    by_room : {every : Bool} {R : Pattern} → Says s p every R → Fits s every R → Decided
    by_room {every} {R} h f =
        elim (dec_lt room (length (encode (tree_for s every R)))) [
          | yes less ↦ inl (22, 0, RefusedWith.output_short every R h f less)
          | no enough ↦ inr (every, R, record { says = h; fits = f; room_enough = omega arith })
        ]

    by_size : {every : Bool} {R : Pattern} → Says s p every R → Decided
    by_size {every} {R} h =
        elim (dec_lt 64 (tree_size (tree_for s every R))) [
          | yes over ↦ inl (31, 0, RefusedWith.large every R h (inl over))
          | no few ↦ elim (dec_lt 6 (binders (tree_for s every R))) [
            | yes over ↦ inl (31, 0, RefusedWith.large every R h (inr over))
            | no less ↦ by_room h (record { few_nodes = omega arith; few_binders = omega arith })
          ]
        ]

    by_reading : WellFormedSheet s → (r : Reading) → reading_on s p ≡ r → Decided
    by_reading kept malformed q =
        inl (30, 0, RefusedWith.unreadable kept (λ every R h. let g = read_as h in let z : ◌≡◌ {A = ℕ} 0 1 = cc in omega arith))
    by_reading kept (readable every R) q = by_size (says kept q)

    by_sheet : (c : Check) → sheet_check s ≡ c → Decided
    by_sheet (Ok tt) e = by_reading ((accepted_iff s).0 e) (reading_on s p) refl
    by_sheet (Err x) e =
        inl (
          number_of x,
          place_of x,
          RefusedWith.faulty_sheet ((refusals_in_order.sheets s (number_of x) (place_of x) (refused_number x)).0
              (ap (λ (c : Check). (reported_check c).number) e, ap (λ (c : Check). (reported_check c).place) e)),
        )

    decided : Decided
    decided = by_sheet (sheet_check s) refl

    -- ---- what is reported then

    abbrev Reports : ℕ → ℕ → Type 0
    Reports k m = (1 ≤ k) × ((translation_report_of s p room).number ≡ k) × ((translation_report_of s p room).place ≡ m)

    reports : (t : Translated) → 1 ≤ (reported_translation t).number → translated_of s p room ≡ t
        → Reports (reported_translation t).number (reported_translation t).place
    reports t l e = (l, ap (λ (x : Translated). (reported_translation x).number) e, ap (λ (x : Translated). (reported_translation x).place) e)

    sheet_reports : {k m : ℕ} → First (SheetFault s) k m → (c : Check) → sheet_check s ≡ c → Reports k m
    sheet_reports {k} {m} f c e =
        let low = (sheet_range s k m f.found).0 in
        by_check c e low ((refusals_in_order.sheets s k m low).1 f)
      where
        by_check : (c : Check) → sheet_check s ≡ c → 1 ≤ k
            → ((reported_check (sheet_check s)).number ≡ k) × ((reported_check (sheet_check s)).place ≡ m) → Reports k m
        by_check (Ok tt) e low q = absurd (omega (arith, q.0, ap (λ (c : Check). (reported_check c).number) e))
        by_check (Err x) e low q =
            let r = reports (Err (Refused x)) (refused_number x) (answers_refused s p room e) in (
              low,
              r.1 ∙ sym (ap (λ (c : Check). (reported_check c).number) e) ∙ q.0,
              r.2 ∙ sym (ap (λ (c : Check). (reported_check c).place) e) ∙ q.1,
            )

    malformed_reports : WellFormedSheet s → ((every : Bool) (R : Pattern) → Says s p every R → ⊥)
        → (r : Reading) → reading_on s p ≡ r → Reports 30 0
    malformed_reports kept none malformed q = reports (Err Malformed) (omega arith) (answers_malformed s p room (passed kept) q)
    malformed_reports kept none (readable every R) q = absurd (none every R (says kept q))

    refused_reports : {k m : ℕ} → RefusedWith s p room k m → Reports k m
    refused_reports (RefusedWith.faulty_sheet f) = sheet_reports f (sheet_check s) refl
    refused_reports (RefusedWith.unreadable kept none) = malformed_reports kept none (reading_on s p) refl
    refused_reports (RefusedWith.large every R h over) =
        reports (Err TooLarge) (omega arith) (answers_large s p room (passed h.accepted) (read_as h) over)
    refused_reports (RefusedWith.output_short every R h f less) =
        reports (Err (Refused OutputShort)) (omega arith)
        (answers_short s p room (passed h.accepted) (read_as h) f.few_nodes f.few_binders less)

    wrote : {every : Bool} {R : Pattern} → AcceptedWith s p room every R
        → translated_of s p room ≡ Ok (length (encode (tree_for s every R)))
    wrote x =
        let h = x.says in
        answers_wrote s p room (passed h.accepted) (read_as h) x.fits.few_nodes x.fits.few_binders x.room_enough

  module _ (out : List ℕ) where
    abbrev answer : Translated
    answer = translated_of s p (length out)

    number_zero : {every : Bool} {R : Pattern} → AcceptedWith s p (length out) every R → (reported_translation answer).number ≡ 0
    number_zero x = ap (λ (t : Translated). (reported_translation t).number) (wrote (length out) x)

    refused_as : (k m : ℕ) → 1 ≤ k → Decided (length out)
        → ((reported_translation answer).number ≡ k) × ((reported_translation answer).place ≡ m) → RefusedWith s p (length out) k m
    refused_as k m l (inl x) q =
        let r = refused_reports (length out) x.2 in
        subst₂ (RefusedWith s p (length out)) (sym r.1 ∙ q.0) (sym r.2 ∙ q.1) x.2
    refused_as k m l (inr x) q = absurd (omega (arith, q.0, number_zero x.2))

    accepted_as : Decided (length out) → (reported_translation answer).number ≡ 0
        → (every : Bool) × (R : Pattern) × AcceptedWith s p (length out) every R
    accepted_as (inl x) q = absurd (omega (arith, refused_reports (length out) x.2))
    accepted_as (inr x) q = x

    front : {every : Bool} {R : Pattern} → AcceptedWith s p (length out) every R
        → take (reported_translation answer).size (output_after s p out) ≡ encode (tree_for s every R)
    front {every} {R} x =
        rw (wrote (length out) x)
        (ap (take (length (encode (tree_for s every R)))) (leaves_written s p out (read_as x.says) _ (wrote (length out) x))
        ∙ take_at (encode (tree_for s every R)) _ _ refl)

    answered : TranslationAnswered s p out answer (output_after s p out)
    answered = record {
      refused_with = λ k m l. (
        refused_as k m l (decided (length out)),
        λ r. let q = refused_reports (length out) r in (q.1, q.2),
      );
      accepted_with = (accepted_as (decided (length out)), λ x. number_zero x.2);
      place_none = λ q.
          let x = accepted_as (decided (length out)) q in
          ap (λ (t : Translated). (reported_translation t).place) (wrote (length out) x.2);
      size_is = λ every R x. ap (λ (t : Translated). (reported_translation t).size) (wrote (length out) x);
      output_is = λ every R x.
          rw (wrote (length out) x) (leaves_written s p out (read_as x.says) _ (wrote (length out) x));
      means = λ every R x. subst (MeansSentence s every R) (sym (front x)) (means_sentence x.says x.fits);
      refused = leaves_unchanged s p out;
    }

pub translation_correct : TranslationCorrect
translation_correct s p out said out' c = subst₂ (TranslationAnswered s p out) (sym c.0) (sym c.1.1) (answered s p out)
