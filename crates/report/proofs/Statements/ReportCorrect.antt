-- Every call of `report` that keeps its contract gives the right number, and where it is accepted a text that is right.
use Prim.Native.Nat.{ℕ, ◌<◌, ◌≤◌}
use mathlib.Core.Path.{◌≡◌, refl, sym, ap, subst, ◌∙◌}
use mathlib.Core.Bool.{Bool, true, false}
use mathlib.Core.List.{List}
use mathlib.Core.Logic.{◌⊎◌, ◌≢◌, inl, inr}
use native.Mathlib.Omega.{arith}
use lib.ListN.{length, replicate, length-replicate}
use lib.Dec.{leb}
use borrow.Author.Tests.{leb-true, leb-false}
use Rattle.text.specs.Placing.{starting_with}
use Rattle.sheet.specs.Refusals.{number_of, place_of, require, and_then}
use Rattle.sheet.specs.RunningCalls.{AllBytes}
use Rattle.sheet.specs.Reading.{sheet_check}
use Rattle.sheet.specs.declared.Refusal.{Refusal}
use Rattle.sheet.specs.declared.Refusal.TheVariants.{TableShort, OutputShort}
use Rattle.std.specs.Prelude.{Err, Ok}
use Rattle.sheet.specs.Refusals.{Check}
use Rattle.sheet.proofs.Acceptance.Numbers.{refused_number, low_refusal}
use Rattle.judge.specs.Cells.{table_bytes}
use Rattle.judge.specs.StoredCount.{stored_count}
use Rattle.judge.specs.Clearing.{clear_check, answer_cleared, cleared_of, table_cleared, ClearReport, reported_clear}
use Rattle.judge.specs.Lists.{JustCleared, reports, table_after}
use Rattle.judge.proofs.Lists.Called.{calls_exactly}
use Rattle.judge.proofs.Statements.Demand3.{demand3}
use Rattle.judge.proofs.Statements.RunningCalls.{delivered}
use Rattle.report.specs.Text.{tally_of}
use Rattle.report.specs.Reporting.{most_queries, least_output, few_queries, report_check, answers_of, table_after_queries, report_text, answer_report, report_of, leaves, table_reported, output_reported, reported_text, TextReport, WritesReport}
use Rattle.report.specs.ReportCorrect.{RoomForEveryReport, ReportNumbers, ReportCorrect, ReportsCorrect}
use Rattle.report.specs.Reporting.{Report}
use Rattle.report.specs.declared.ReportError.TheVariants.{TooManyQueries, Refused}
use Rattle.report.proofs.Lists.OneMore.{tally_sum}
use Rattle.report.proofs.Steps.LineSteps.{text_length_lem}

pub room : RoomForEveryReport
room s states t bytes few just =
    text_length_lem s states (table_cleared s t) (replicate least_output 0) (record { few = few; bytes = bytes; lent = t; just = just; cleared = refl; long = omega (arith, length-replicate {A = ℕ} least_output 0) })

module _ (s t : List ℕ) where
  -- what clearing refuses has a number from 1 to 10, or 20
  clearing_number : (x : Refusal) → clear_check s t ≡ Err x → (number_of x ≤ 10) ⊎ (number_of x ≡ 20)
  unfolding clear_check
  clearing_number x e = go (sheet_check s) refl (leb (table_bytes s) (length t)) e
    where
      number : Check → ℕ
      number (Ok tt) = 0
      number (Err y) = number_of y

      go : (c : Check) → sheet_check s ≡ c → (b : Bool) → and_then c (require b TableShort) ≡ Err x → (number_of x ≤ 10) ⊎ (number_of x ≡ 20)
      go (Ok tt) p true q = absurd (omega (arith, ap number q, refused_number x))
      go (Ok tt) p false q = inr (sym (ap number q))
      go (Err y) p b q = inl (omega (arith, ap number q, low_refusal s p))

  cleared_passed : clear_check s t ≡ Ok tt → JustCleared s t
  unfolding cleared_of
  cleared_passed e = ap (λ (c : Check). (reported_clear (answer_cleared c)).number) e

  cleared_failed : (x : Refusal) → clear_check s t ≡ Err x → reported_clear (cleared_of s t) ≡ record { number = number_of x; place = place_of x }
  unfolding cleared_of
  cleared_failed x e = ap (λ (c : Check). reported_clear (answer_cleared c)) e

-- the same of a report that clearing turns down
abbrev turned_down_by : ClearReport → TextReport
turned_down_by c = record { number = c.number; place = c.place; size = 0 }

turned_down : {c d : ClearReport} → c ≡ d → turned_down_by c ≡ turned_down_by d
turned_down e = ap turned_down_by e

-- the four ways out of a report
data Way (s states t out : List ℕ) : Report → List ℕ → List ℕ → Type 0 where
  many : most_queries < length states → Way s states t out (Err TooManyQueries) t out
  clearing : length states ≤ most_queries → (x : Refusal) → clear_check s t ≡ Err x → Way s states t out (Err (Refused x)) t out
  short : length states ≤ most_queries → clear_check s t ≡ Ok tt → length out < least_output → Way s states t out (Err (Refused OutputShort)) t out
  written : length states ≤ most_queries → clear_check s t ≡ Ok tt → least_output ≤ length out
      → Way s states t out (Ok (length (report_text s states t))) (table_after_queries s states t) (starting_with (report_text s states t) out)

module _ (s states t out : List ℕ) where
  -- the answer, and with it what is left
  abbrev With : Report → Type 0
  With r = Way s states t out r (leaves (table_after_queries s states t) t r) (leaves (starting_with (report_text s states t) out) out r)

  way : Way s states t out (report_of s states t out) (table_reported s states t out) (output_reported s states t out)
  unfolding report_of table_reported output_reported report_check
  way = go (few_queries states) refl (clear_check s t) refl (leb least_output (length out)) refl
    where
      go : (few : Bool) → few_queries states ≡ few → (c : Check) → clear_check s t ≡ c → (b : Bool) → leb least_output (length out) ≡ b → With (answer_report (length (report_text s states t)) few (and_then c (require b OutputShort)))
      go false f c e b g = many (leb-false (length states) most_queries f)
      go true f (Err x) e b g = clearing (leb-true (length states) most_queries f) x e
      go true f (Ok tt) e false g = short (leb-true (length states) most_queries f) e (leb-false least_output (length out) g)
      go true f (Ok tt) e true g = written (leb-true (length states) most_queries f) e (leb-true least_output (length out) g)

  way_of : {r : Report} {u v : List ℕ} → WritesReport s states t out r u v → Way s states t out r u v
  way_of {r} {u} {v} k =
      subst (λ (x : Report). Way s states t out x u v) (sym k.0)
      (subst (λ (x : List ℕ). Way s states t out (report_of s states t out) x v) (sym k.1.1.0)
      (subst (λ (x : List ℕ). Way s states t out (report_of s states t out) (table_reported s states t out) x) (sym k.1.1.1.0) way))

  -- what each way says of the numbers
  twenty_two_only : (x : Refusal) → clear_check s t ≡ Err x → number_of x ≢ 22
  twenty_two_only x e n = elim (clearing_number s t x e) [
    | inl h ↦ omega (arith, h, n)
    | inr h ↦ omega (arith, h, n)
  ]

  thirty_six_only : (x : Refusal) → clear_check s t ≡ Err x → number_of x ≢ 36
  thirty_six_only x e n = elim (clearing_number s t x e) [
    | inl h ↦ omega (arith, h, n)
    | inr h ↦ omega (arith, h, n)
  ]

  not_cleared : (x : Refusal) → clear_check s t ≡ Err x → JustCleared s t → ⊥
  not_cleared x e just = omega (arith, ap (λ (c : ClearReport). c.number) (cleared_failed s t x e), just, refused_number x)

  to_36 : {r : Report} {u v : List ℕ} → Way s states t out r u v → (reported_text r).number ≡ 36 → most_queries < length states
  to_36 (many h) n = h
  to_36 (clearing few x e) n = absurd (thirty_six_only x e n)
  to_36 (short few e h) n = absurd (omega (arith, n))
  to_36 (written few e h) n = absurd (omega (arith, n))

  from_36 : {r : Report} {u v : List ℕ} → Way s states t out r u v → most_queries < length states → (reported_text r).number ≡ 36
  from_36 (many h) m = refl
  from_36 (clearing few x e) m = absurd (omega (arith, few, m))
  from_36 (short few e h) m = absurd (omega (arith, few, m))
  from_36 (written few e h) m = absurd (omega (arith, few, m))

  by_clearing : {r : Report} {u v : List ℕ} → Way s states t out r u v → length states ≤ most_queries → (reported_clear (cleared_of s t)).number ≢ 0
      → reported_text r ≡ record { number = (reported_clear (cleared_of s t)).number; place = (reported_clear (cleared_of s t)).place; size = 0 }
  by_clearing (many h) few n = absurd (omega (arith, few, h))
  by_clearing (clearing few' x e) few n = turned_down (sym (cleared_failed s t x e))
  by_clearing (short few' e h) few n = absurd (n (cleared_passed s t e))
  by_clearing (written few' e h) few n = absurd (n (cleared_passed s t e))

  to_22 : {r : Report} {u v : List ℕ} → Way s states t out r u v → (reported_text r).number ≡ 22 → (length states ≤ most_queries) × (JustCleared s t × (length out < least_output))
  to_22 (many h) n = absurd (omega (arith, n))
  to_22 (clearing few x e) n = absurd (twenty_two_only x e n)
  to_22 (short few e h) n = (few, (cleared_passed s t e, h))
  to_22 (written few e h) n = absurd (omega (arith, n))

  from_22 : {r : Report} {u v : List ℕ} → Way s states t out r u v → (length states ≤ most_queries) × (JustCleared s t × (length out < least_output)) → (reported_text r).number ≡ 22
  from_22 (many h) m = absurd (omega (arith, h, m.0))
  from_22 (clearing few x e) m = absurd (not_cleared x e m.1.0)
  from_22 (short few e h) m = refl
  from_22 (written few e h) m = absurd (omega (arith, h, m.1.1))

  to_0 : {r : Report} {u v : List ℕ} → Way s states t out r u v → (reported_text r).number ≡ 0 → (length states ≤ most_queries) × (JustCleared s t × (least_output ≤ length out))
  to_0 (many h) n = absurd (omega (arith, n))
  to_0 (clearing few x e) n = absurd (omega (arith, n, refused_number x))
  to_0 (short few e h) n = absurd (omega (arith, n))
  to_0 (written few e h) n = (few, (cleared_passed s t e, h))

  from_0 : {r : Report} {u v : List ℕ} → Way s states t out r u v → (length states ≤ most_queries) × (JustCleared s t × (least_output ≤ length out)) → (reported_text r).number ≡ 0
  from_0 (many h) m = absurd (omega (arith, h, m.0))
  from_0 (clearing few x e) m = absurd (not_cleared x e m.1.0)
  from_0 (short few e h) m = absurd (omega (arith, h, m.1.1))
  from_0 (written few e h) m = refl

  no_place : {r : Report} {u v : List ℕ} → Way s states t out r u v → (most_queries < length states) ⊎ JustCleared s t → (reported_text r).place ≡ 0
  no_place (many h) m = refl
  no_place (clearing few x e) (inl m) = absurd (omega (arith, few, m))
  no_place (clearing few x e) (inr m) = absurd (not_cleared x e m)
  no_place (short few e h) m = refl
  no_place (written few e h) m = refl

  unchanged : {r : Report} {u v : List ℕ} → Way s states t out r u v → (reported_text r).number ≢ 0 → ((reported_text r).size ≡ 0) × ((u ≡ t) × (v ≡ out))
  unchanged (many h) n = (refl, (refl, refl))
  unchanged (clearing few x e) n = (refl, (refl, refl))
  unchanged (short few e h) n = (refl, (refl, refl))
  unchanged (written few e h) n = absurd (n refl)

  numbers : (r : Report) (u v : List ℕ) → WritesReport s states t out r u v → ReportNumbers s states t out r u v
  numbers r u v k =
      let w = way_of k in
      record {
        thirty_six = (to_36 w, from_36 w);
        clearing = λ few c left cl n.
            let e : reported_clear c ≡ reported_clear (cleared_of s t) = cl.1.0 in
            by_clearing w few (λ z. n (ap (λ (x : ClearReport). x.number) e ∙ z)) ∙ turned_down (sym e);
        twenty_two = (to_22 w, from_22 w);
        accepted = (to_0 w, from_0 w);
        place = no_place w;
        refused = unchanged w;
      }

  text : {r : Report} {u v : List ℕ} → AllBytes states → Way s states t out r u v → (reported_text r).number ≡ 0 → ReportCorrect s states t out (reported_text r).size u v
  text bytes (many h) n = absurd (omega (arith, n))
  text bytes (clearing few x e) n = absurd (omega (arith, n, refused_number x))
  text bytes (short few e h) n = absurd (omega (arith, n))
  text bytes (written few e h) n =
      let just = cleared_passed s t e in
      let list = demand3.lists s t states just in
      let stored : tally_of (answers_of s states t) ≡ stored_count s (table_after_queries s states t) = tally_sum (answers_of s states t) ∙ sym list.stored in
      record {
        answers = answers_of s states t;
        calls = λ c w reported left cl. let from = cl.1.1 in (
          λ q. let e = (calls_exactly s w states reported left).0 q in
              (e.0 ∙ ap (λ (x : List ℕ). reports s x states) from, e.1 ∙ ap (λ (x : List ℕ). table_after s x states) from),
          λ e. (calls_exactly s w states reported left).1 (e.0 ∙ sym (ap (λ (x : List ℕ). reports s x states) from), e.1 ∙ sym (ap (λ (x : List ℕ). table_after s x states) from)),
        );
        list = list;
        text = (refl, refl);
        room = room s states t bytes few just;
        sum = tally_sum (answers_of s states t);
        stored = stored;
        counted = λ a reads.
            delivered.progress s t states (cleared_of s t) (table_cleared s t) (answers_of s states t) (table_after_queries s states t) a (refl, (refl, refl)) just ((calls_exactly s (table_cleared s t) states (answers_of s states t) (table_after_queries s states t)).1 (refl, refl)) reads
            ∙ ap (λ (k : ℕ). record { number = 0; place = 0; stored = k }) (sym (tally_sum (answers_of s states t)));
      }

pub reports_correct : ReportsCorrect
reports_correct = record {
  room = room;
  numbers = numbers;
  texts = λ s states t out r u v k. text s states t out k.1.1.1.1 (way_of s states t out k);
}
