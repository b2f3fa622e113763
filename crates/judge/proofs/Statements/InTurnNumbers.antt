-- Which number each call of `query_in_turn` gives: what the number says is shown once, and each number's own fact gives it back.
use Rattle.std.proofs.Common.{◌≡◌, ℕ, ◌<◌, ◌≤◌, Bool, true, false, eqb, ltb, leb, ◌≢◌, ◌⊎◌, List, length, sym, refl, ap, subst, ap₂, inl, inr, arith, ltb-false, ltb-true, eq-eqb, ne_eqb, eqb-true, leb-false, leb-true}
use borrow.Author.Tests.{eqb-false}
use Rattle.sheet.specs.Contents.{plan_body}
use Rattle.sheet.specs.Plan.{state_count}
use Rattle.sheet.specs.Refusals.{number_of, place_of}
use Rattle.sheet.specs.Reading.{sheet_check}
use Rattle.sheet.specs.WellFormed.{WellFormedSheet}
use Rattle.sheet.specs.declared.Refusal.{Refusal}
use Rattle.std.specs.Prelude.{Err, Ok}
use Rattle.sheet.specs.Refusals.{Check}
use Rattle.sheet.proofs.Acceptance.Order.{given_in_order}
use Rattle.sheet.proofs.Acceptance.Numbers.{low_refusal, refused_number}
use Rattle.sheet.proofs.Acceptance.Sheet.{accepted_iff, not_refused}
use Rattle.sheet.proofs.Checks.Bools.{fails}
use Rattle.graph.specs.Loops.{LoopReachable}
use Rattle.graph.specs.LoopTest.{all_pass, loop_free}
use Rattle.graph.specs.Successors.{successors}
use Rattle.graph.proofs.Looptest.LoopFree.{free_exactly_at, loop_reachable}
use Rattle.graph.proofs.Looptest.Settled.{all_member, some_fails}
use Rattle.rows.specs.Tables.{byte_at, visits}
use Rattle.judge.specs.Cells.{cell_bytes, table_bytes}
use Rattle.judge.specs.StoredCount.{stored_count, filled_cells}
use Rattle.judge.specs.Querying.{bytes_right, count_right, left_by}
use Rattle.judge.specs.InTurn.{result_in_turn, in_turn_check, passed_before, holds_by, answer_in_turn, in_turn_of, table_in_turn, InTurnReport, reported_in_turn, in_turn_report_of, QueriesInTurn}
use Rattle.judge.specs.InTurnNumbers.{SomeState, StatesThere, NoLoopsAhead, TableThereFor, CellsRightFor, InTurnNumbers, EachNumbered}
use Rattle.judge.specs.InTurn.{InTurn}
use Rattle.judge.proofs.Steps.ScanSteps.{bytes_small, bytes_right_holds, byte_over}
use Rattle.judge.proofs.Steps.TurnAnswers.{in_turn_unread, in_turn_no_state, in_turn_loop, StatesTaken, in_turn_short, in_turn_bad_byte, in_turn_miscounted, passes}

-- one of two facts, by a test
abbrev either : Bool → Type 0 → Type 0 → Type 0
either true A B = A
either false A B = B

module _ (s states t : List ℕ) where
  -- what a number over 10, or 0, says
  abbrev Says : ℕ → Type 0
  Says n =
      either (eqb n 0) (CellsRightFor s states t × (stored_count s t ≡ filled_cells s t))
      (either (eqb n 11) (WellFormedSheet s × SomeState states (λ v. state_count (plan_body s) ≤ v))
      (either (eqb n 12) (StatesThere s states × SomeState states (LoopReachable (successors (plan_body s))))
      (either (eqb n 20) (NoLoopsAhead s states × (length t < table_bytes s))
      (either (eqb n 21) (TableThereFor s states t × ((i : ℕ) × (i < cell_bytes s) × (2 < byte_at t i)))
      (either (eqb n 35) (CellsRightFor s states t × (stored_count s t ≢ filled_cells s t)) (Unit {0}))))))

  abbrev report : InTurnReport
  report = in_turn_report_of s states t

  told : {r : InTurn} {u : List ℕ} → QueriesInTurn s states t r u → reported_in_turn r ≡ report
  told q = q.1.0

  number_told : {r : InTurn} {u : List ℕ} → QueriesInTurn s states t r u → report.number ≡ (reported_in_turn r).number
  number_told q = sym (ap (λ (x : InTurnReport). x.number) (told q))

  place_told : {r : InTurn} {u : List ℕ} → QueriesInTurn s states t r u → report.place ≡ (reported_in_turn r).place
  place_told q = sym (ap (λ (x : InTurnReport). x.place) (told q))

  -- ---- from a number's fact to the number

  plan_of_lem : WellFormedSheet s → sheet_check s ≡ Ok tt
  plan_of_lem k = (accepted_iff s).1 k

  taken : NoLoopsAhead s states → StatesTaken s states
  taken f = record {
    accepted = plan_of_lem f.there.accepted;
    there = f.there.below;
    free = λ u m. (free_exactly_at (plan_body s) f.there.accepted.bodies_kept.plan_kept u (f.there.below u m)).1 (f.none u m);
  }

  gives_eleven : WellFormedSheet s → SomeState states (λ v. state_count (plan_body s) ≤ v) → report.number ≡ 11
  gives_eleven k f = number_told (in_turn_no_state s states t (plan_of_lem k) f.0 f.1 f.2)

  gives_twelve : StatesThere s states → SomeState states (LoopReachable (successors (plan_body s))) → report.number ≡ 12
  gives_twelve k f =
      number_told
      (in_turn_loop s states t (plan_of_lem k.accepted) k.below f.0 f.1
      (fails (loop_free (plan_body s) f.0) (λ e. (free_exactly_at (plan_body s) k.accepted.bodies_kept.plan_kept f.0 (k.below f.0 f.1)).0 e f.2)))

  gives_twenty : NoLoopsAhead s states → length t < table_bytes s → report.number ≡ 20
  gives_twenty k l = number_told (in_turn_short (taken k) t l)

  gives_twenty_one : TableThereFor s states t → (i : ℕ) × (i < cell_bytes s) × (2 < byte_at t i) → report.number ≡ 21
  gives_twenty_one k f =
      number_told
      (in_turn_bad_byte (taken k.free) t k.long
      (fails (bytes_right (cell_bytes s) t) (λ e. absurd (omega (arith, bytes_small (cell_bytes s) t e f.0 f.1, f.2)))))

  module _ (k : CellsRightFor s states t) where
    right : bytes_right (cell_bytes s) t ≡ true
    right = bytes_right_holds (cell_bytes s) t k.small

    gives_thirty_five : stored_count s t ≢ filled_cells s t → report.number ≡ 35
    gives_thirty_five f = number_told (in_turn_miscounted (taken k.there.free) t k.there.long right f)

    judged : stored_count s t ≡ filled_cells s t
        → report ≡ record { number = 0; place = 0; passed = passed_before (holds_by s t) states; visits = visits (result_in_turn s states t) }
    unfolding in_turn_of count_right
    judged e =
        ap₂ (λ (c : Check) (b : Bool). reported_in_turn (answer_in_turn (passed_before (holds_by s t) states) (visits (result_in_turn s states t)) c b))
        (passes (taken k.there.free) t k.there.long right) (eq-eqb (stored_count s t) (filled_cells s t) e)

  -- ---- the number, by the tests in their order

  data Told (r : InTurnReport) : Type 0 where
    low : (x : Refusal) → sheet_check s ≡ Err x → Told r
    high : WellFormedSheet s → (r.number ≡ 0) ⊎ (10 < r.number) → r.place ≡ 0 → Says r.number → Told r

  -- of a refusal over 10
  refusal : WellFormedSheet s → {r : InTurn} {u : List ℕ} → QueriesInTurn s states t r u → 10 < (reported_in_turn r).number → (reported_in_turn r).place ≡ 0
      → Says (reported_in_turn r).number → Told report
  refusal k q l p f = subst Told (told q) (high k (inr l) p f)

  by_count : CellsRightFor s states t → (b : Bool) → eqb (stored_count s t) (filled_cells s t) ≡ b → Told report
  by_count k true e =
      let f = eqb-true (stored_count s t) (filled_cells s t) e in
      subst Told (sym (judged k f)) (high k.there.free.there.accepted (inl refl) refl (k, f))
  by_count k false e =
      let f = eqb-false (stored_count s t) (filled_cells s t) e in
      refusal k.there.free.there.accepted (in_turn_miscounted (taken k.there.free) t k.there.long (right k) f) (omega arith) refl (k, f)

  by_bytes : TableThereFor s states t → (b : Bool) → bytes_right (cell_bytes s) t ≡ b → Told report
  by_bytes k true e = by_count (record { there = k; small = bytes_small (cell_bytes s) t e }) (eqb (stored_count s t) (filled_cells s t)) refl
  by_bytes k false e =
      refusal k.free.there.accepted (in_turn_bad_byte (taken k.free) t k.long e) (omega arith) refl (k, byte_over (cell_bytes s) t e)

  by_length : NoLoopsAhead s states → (b : Bool) → leb (table_bytes s) (length t) ≡ b → Told report
  by_length k true e = by_bytes (record { free = k; long = leb-true (table_bytes s) (length t) e }) (bytes_right (cell_bytes s) t) refl
  by_length k false e =
      let l = leb-false (table_bytes s) (length t) e in
      refusal k.there.accepted (in_turn_short (taken k) t l) (omega arith) refl (k, l)

  by_loops : StatesThere s states → (b : Bool) → all_pass (loop_free (plan_body s)) states ≡ b → Told report
  by_loops k true e =
      by_length
      (record {
        there = k;
        none = λ u m.
            (free_exactly_at (plan_body s) k.accepted.bodies_kept.plan_kept u (k.below u m)).0 (all_member (loop_free (plan_body s)) states u e m);
      }) (leb (table_bytes s) (length t)) refl
  by_loops k false e =
      let f = some_fails (loop_free (plan_body s)) states e in
      refusal k.accepted (in_turn_loop s states t (plan_of_lem k.accepted) k.below f.0 f.1 f.2) (omega arith) refl
      (k, (f.0, f.1, loop_reachable (plan_body s) k.accepted.bodies_kept.plan_kept f.0 (k.below f.0 f.1) f.2))

  abbrev below : ℕ → Bool
  below v = ltb v (state_count (plan_body s))

  by_states : WellFormedSheet s → (b : Bool) → all_pass below states ≡ b → Told report
  by_states k true e =
      by_loops (record { accepted = k; below = λ u m. ltb-true u (state_count (plan_body s)) (all_member below states u e m) })
      (all_pass (loop_free (plan_body s)) states) refl
  by_states k false e =
      let f = some_fails below states e in
      let l = ltb-false f.0 (state_count (plan_body s)) f.2 in
      refusal k (in_turn_no_state s states t (plan_of_lem k) f.0 f.1 l) (omega arith) refl (k, (f.0, f.1, l))

  by_sheet : (c : Check) → sheet_check s ≡ c → Told report
  by_sheet (Ok tt) e = by_states ((accepted_iff s).0 e) (all_pass below states) refl
  by_sheet (Err x) e = low x e

  says_low : (n : ℕ) → 0 < n → n ≤ 10 → Says n
  says_low n h l =
      rw (
        ne_eqb n 0 (omega arith),
        ne_eqb n 11 (omega arith),
        ne_eqb n 12 (omega arith),
        ne_eqb n 20 (omega arith),
        ne_eqb n 21 (omega arith),
        ne_eqb n 35 (omega arith),
      ) tt

  unread : (x : Refusal) → sheet_check s ≡ Err x → (report.number ≡ number_of x) × (report.place ≡ place_of x)
  unread x e = let q = in_turn_unread s states t x e in (number_told q, place_told q)

  says : Told report → Says report.number
  says (low x e) = subst Says (sym (unread x e).0) (says_low (number_of x) (refused_number x) (low_refusal s e))
  says (high k n p f) = f

  over_ten : Told report → sheet_check s ≡ Ok tt → (report.number ≡ 0) ⊎ (10 < report.number)
  over_ten (low x f) e = absurd (not_refused s f ((accepted_iff s).0 e))
  over_ten (high k n p f) e = n

  no_place : Told report → WellFormedSheet s → report.place ≡ 0
  no_place (low x f) k = absurd (not_refused s f k)
  no_place (high _ n p f) k = p

  -- what a refused call reports and leaves
  module _ (u : List ℕ) where
    left_by_lem : (c : Check) (b : Bool) → (reported_in_turn (answer_in_turn (passed_before (holds_by s t) states) (visits (result_in_turn s states t)) c b)).number ≢ 0
        → u ≡ left_by s (result_in_turn s states t) t c b
        → ((reported_in_turn (answer_in_turn (passed_before (holds_by s t) states) (visits (result_in_turn s states t)) c b)).passed ≡ 0)
        × ((reported_in_turn (answer_in_turn (passed_before (holds_by s t) states) (visits (result_in_turn s states t)) c b)).visits ≡ 0) × (u ≡ t)
    left_by_lem (Ok tt) true h e = absurd (h refl)
    left_by_lem (Ok tt) false h e = (refl, refl, e)
    left_by_lem (Err x) b h e = (refl, refl, e)

    unchanged : report.number ≢ 0 → u ≡ table_in_turn s states t → (report.passed ≡ 0) × (report.visits ≡ 0) × (u ≡ t)
    unfolding in_turn_of table_in_turn
    unchanged h e = left_by_lem (in_turn_check s states t) (count_right s t) h e

  numbers : (r : InTurn) (u : List ℕ) → r ≡ in_turn_of s states t → u ≡ table_in_turn s states t → InTurnNumbers s states t r u
  numbers r u q e = subst (λ (x : InTurn). InTurnNumbers s states t x u) (sym q) (record {
    unreadable = unread;
    in_order = given_in_order s report.number report.place unread (over_ten here);
    eleven = (λ n. subst Says n (says here), λ f. gives_eleven f.0 f.1);
    twelve = (λ n. subst Says n (says here), λ f. gives_twelve f.0 f.1);
    twenty = (λ n. subst Says n (says here), λ f. gives_twenty f.0 f.1);
    twenty_one = (λ n. subst Says n (says here), λ f. gives_twenty_one f.0 f.1);
    thirty_five = (λ n. subst Says n (says here), λ f. gives_thirty_five f.0 f.1);
    none = (λ n. subst Says n (says here), λ f. ap (λ (x : InTurnReport). x.number) (judged f.0 f.1));
    place = no_place here;
    refused = λ n. unchanged u n e;
  })
    where
      here : Told report
      here = by_sheet (sheet_check s) refl

pub in_turn_numbers : EachNumbered
in_turn_numbers s states t r u q = numbers s states t r u q.0 q.1.1
