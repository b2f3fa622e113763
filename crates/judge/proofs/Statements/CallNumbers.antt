-- Which number each call gives: the tests of a check taken apart.
use Rattle.std.proofs.Common.{◌≡◌, ℕ, ◌<◌, ◌≤◌, Bool, true, false, ltb, leb, ◌≢◌, ◌⊎◌, List, length, sym, refl, ap, ◌∙◌, subst, inl, inr, arith, ltb-false, ltb-true, eqb-true, le-leb, leb-false, leb-true}
use native.Mathlib.Decide.{dec_lt}
use borrow.Author.Tests.{lt-leb, eqb-false}
use Rattle.sheet.specs.Contents.{plan_body}
use Rattle.sheet.specs.Plan.{state_count}
use Rattle.sheet.specs.Refusals.{number_of, place_of, require, and_then}
use Rattle.sheet.specs.Reading.{sheet_check}
use Rattle.sheet.specs.WellFormed.{WellFormedSheet}
use Rattle.sheet.specs.declared.Refusal.{Refusal}
use Rattle.sheet.specs.declared.Refusal.TheVariants.{NoSuchState, Loop, TableShort, TableByte}
use Rattle.std.specs.Prelude.{Err, Ok}
use Rattle.sheet.specs.Refusals.{Check}
use Rattle.sheet.specs.RefusalOrder.{GivenInOrder}
use Rattle.sheet.proofs.Acceptance.Order.{given_in_order}
use Rattle.sheet.proofs.Acceptance.Numbers.{low_refusal, refused_number}
use Rattle.sheet.proofs.Acceptance.Sheet.{accepted_iff, not_refused}
use Rattle.graph.specs.Loops.{LoopReachable}
use Rattle.graph.specs.LoopTest.{loop_free}
use Rattle.graph.specs.Successors.{successors}
use Rattle.graph.proofs.Looptest.LoopFree.{free_exactly_at, loop_reachable}
use Rattle.rows.specs.Tables.{byte_at}
use Rattle.judge.specs.Cells.{cell_bytes, table_bytes}
use Rattle.judge.specs.StoredCount.{stored_count, filled_cells}
use Rattle.judge.specs.Clearing.{clear_check, answer_cleared, cleared_of, emptied, table_cleared, ClearReport, reported_clear, Clears}
use Rattle.judge.specs.Querying.{bytes_right, query_check, count_right, result_of, answer_queried, queried_of, QueryReport, reported_query}
use Rattle.judge.specs.Counting.{answer_counted, counted_of, CountReport, reported_count, ReadsCount}
use Rattle.judge.specs.CallNumbers.{ClearNumbers, StateThere, NoLoopAhead, TableThere, CellsRight, QueryNumbers, CountNumbers, CallNumbers}
use Rattle.judge.specs.Clearing.{Cleared}
use Rattle.judge.specs.Counting.{Counted}
use Rattle.judge.specs.Querying.{Queried}
use Rattle.judge.proofs.Steps.ScanSteps.{bytes_small, byte_over}
use Rattle.judge.proofs.Lists.JustCleared.{cleared_length, cleared_below, cleared_above}

-- the refusal of a check that failed
abbrev refusal_in : Check → Refusal
refusal_in (Ok tt) = Loop
refusal_in (Err x) = x

-- which of the cases a sheet, a state and a table are in, and the number of each
pub data QueryCase (s : List ℕ) (state : ℕ) (t : List ℕ) : ℕ → ℕ → Type 0 where
  unread : (x : Refusal) → sheet_check s ≡ Err x → QueryCase s state t (number_of x) (place_of x)
  no_state_holds : WellFormedSheet s → state_count (plan_body s) ≤ state → QueryCase s state t 11 0
  looping : StateThere s state → LoopReachable (successors (plan_body s)) state → QueryCase s state t 12 0
  short : NoLoopAhead s state → length t < table_bytes s → QueryCase s state t 20 0
  bad_byte : TableThere s state t → (i : ℕ) → i < cell_bytes s → 2 < byte_at t i → QueryCase s state t 21 0
  miscounted : CellsRight s state t → stored_count s t ≢ filled_cells s t → QueryCase s state t 35 0
  fine : CellsRight s state t → stored_count s t ≡ filled_cells s t → QueryCase s state t 0 0

module _ (s : List ℕ) where
  kept : sheet_check s ≡ Ok tt → WellFormedSheet s
  kept e = (accepted_iff s).0 e

  passed : WellFormedSheet s → sheet_check s ≡ Ok tt
  passed k = (accepted_iff s).1 k

  module _ (state : ℕ) (t : List ℕ) where
    abbrev plan : List ℕ
    plan = plan_body s

    -- what is reported of a check
    abbrev report_of : Check → QueryReport
    report_of c = reported_query (answer_queried (result_of s state t) c (count_right s t))

    abbrev Case : Check → Type 0
    Case c = QueryCase s state t (report_of c).number (report_of c).place

    by_count : CellsRight s state t → (b : Bool) → count_right s t ≡ b
        → QueryCase s state t (reported_query (answer_queried (result_of s state t) (Ok tt) b)).number (reported_query (answer_queried (result_of s state t) (Ok tt) b)).place
    unfolding count_right
    by_count q true h = fine q (eqb-true (stored_count s t) (filled_cells s t) h)
    by_count q false h = miscounted q (eqb-false (stored_count s t) (filled_cells s t) h)

    by_bytes : TableThere s state t → (b : Bool) → bytes_right (cell_bytes s) t ≡ b → Case (require b TableByte)
    by_bytes q true h = by_count (record { there = q; small = bytes_small (cell_bytes s) t h }) (count_right s t) refl
    by_bytes q false h = let f = byte_over (cell_bytes s) t h in bad_byte q f.0 f.1 f.2

    by_length : NoLoopAhead s state → (b : Bool) → leb (table_bytes s) (length t) ≡ b → Case (and_then (require b TableShort) (require (bytes_right (cell_bytes s) t) TableByte))
    by_length q true h = by_bytes (record { free = q; long = leb-true (table_bytes s) (length t) h }) (bytes_right (cell_bytes s) t) refl
    by_length q false h = short q (leb-false (table_bytes s) (length t) h)

    abbrev of_table : Check
    of_table = and_then (require (leb (table_bytes s) (length t)) TableShort) (require (bytes_right (cell_bytes s) t) TableByte)

    by_loop : StateThere s state → (b : Bool) → loop_free plan state ≡ b → Case (and_then (require b Loop) of_table)
    by_loop q true h = by_length (record { there = q; none = (free_exactly_at plan q.accepted.bodies_kept.plan_kept state q.below).0 h }) (leb (table_bytes s) (length t)) refl
    by_loop q false h = looping q (loop_reachable plan q.accepted.bodies_kept.plan_kept state q.below h)

    by_state : WellFormedSheet s → (b : Bool) → ltb state (state_count plan) ≡ b → Case (and_then (require b NoSuchState) (and_then (require (loop_free plan state) Loop) of_table))
    by_state k true h = by_loop (record { accepted = k; below = ltb-true state (state_count plan) h }) (loop_free plan state) refl
    by_state k false h = no_state_holds k (ltb-false state (state_count plan) h)

    by_sheet : (c : Check) → sheet_check s ≡ c
        → Case (and_then c (and_then (require (ltb state (state_count plan)) NoSuchState) (and_then (require (loop_free plan state) Loop) of_table)))
    by_sheet (Ok tt) e = by_state (kept e) (ltb state (state_count plan)) refl
    by_sheet (Err x) e = unread x e

    query_case : QueryCase s state t (reported_query (queried_of s state t)).number (reported_query (queried_of s state t)).place
    unfolding queried_of query_check
    query_case = by_sheet (sheet_check s) refl

    eleven_to : {n p : ℕ} → QueryCase s state t n p → n ≡ 11 → WellFormedSheet s × (state_count plan ≤ state)
    eleven_to (unread x e) h = absurd (omega (arith, low_refusal s e))
    eleven_to (no_state_holds k l) h = (k, l)
    eleven_to (looping q w) h = absurd (omega arith)
    eleven_to (short q l) h = absurd (omega arith)
    eleven_to (bad_byte q i l b) h = absurd (omega arith)
    eleven_to (miscounted q f) h = absurd (omega arith)
    eleven_to (fine q f) h = absurd (omega arith)

    eleven_from : {n p : ℕ} → QueryCase s state t n p → WellFormedSheet s × (state_count plan ≤ state) → n ≡ 11
    eleven_from (unread x e) h = absurd (not_refused s e h.0)
    eleven_from (no_state_holds k l) h = refl
    eleven_from (looping q w) h = absurd (omega (arith, q.below, h.1))
    eleven_from (short q l) h = absurd (omega (arith, q.there.below, h.1))
    eleven_from (bad_byte q i l b) h = absurd (omega (arith, q.free.there.below, h.1))
    eleven_from (miscounted q f) h = absurd (omega (arith, q.there.free.there.below, h.1))
    eleven_from (fine q f) h = absurd (omega (arith, q.there.free.there.below, h.1))

    twelve_to : {n p : ℕ} → QueryCase s state t n p → n ≡ 12 → StateThere s state × LoopReachable (successors plan) state
    twelve_to (unread x e) h = absurd (omega (arith, low_refusal s e))
    twelve_to (no_state_holds k l) h = absurd (omega arith)
    twelve_to (looping q w) h = (q, w)
    twelve_to (short q l) h = absurd (omega arith)
    twelve_to (bad_byte q i l b) h = absurd (omega arith)
    twelve_to (miscounted q f) h = absurd (omega arith)
    twelve_to (fine q f) h = absurd (omega arith)

    twelve_from : {n p : ℕ} → QueryCase s state t n p → StateThere s state × LoopReachable (successors plan) state → n ≡ 12
    twelve_from (unread x e) h = absurd (not_refused s e h.0.accepted)
    twelve_from (no_state_holds k l) h = absurd (omega (arith, h.0.below))
    twelve_from (looping q w) h = refl
    twelve_from (short q l) h = absurd (q.none h.1)
    twelve_from (bad_byte q i l b) h = absurd (q.free.none h.1)
    twelve_from (miscounted q f) h = absurd (q.there.free.none h.1)
    twelve_from (fine q f) h = absurd (q.there.free.none h.1)

    twenty_to : {n p : ℕ} → QueryCase s state t n p → n ≡ 20 → NoLoopAhead s state × (length t < table_bytes s)
    twenty_to (unread x e) h = absurd (omega (arith, low_refusal s e))
    twenty_to (no_state_holds k l) h = absurd (omega arith)
    twenty_to (looping q w) h = absurd (omega arith)
    twenty_to (short q l) h = (q, l)
    twenty_to (bad_byte q i l b) h = absurd (omega arith)
    twenty_to (miscounted q f) h = absurd (omega arith)
    twenty_to (fine q f) h = absurd (omega arith)

    twenty_from : {n p : ℕ} → QueryCase s state t n p → NoLoopAhead s state × (length t < table_bytes s) → n ≡ 20
    twenty_from (unread x e) h = absurd (not_refused s e h.0.there.accepted)
    twenty_from (no_state_holds k l) h = absurd (omega (arith, h.0.there.below))
    twenty_from (looping q w) h = absurd (h.0.none w)
    twenty_from (short q l) h = refl
    twenty_from (bad_byte q i l b) h = absurd (omega (arith, q.long, h.1))
    twenty_from (miscounted q f) h = absurd (omega (arith, q.there.long, h.1))
    twenty_from (fine q f) h = absurd (omega (arith, q.there.long, h.1))

    twenty_one_to : {n p : ℕ} → QueryCase s state t n p → n ≡ 21 → TableThere s state t × ((i : ℕ) × (i < cell_bytes s) × (2 < byte_at t i))
    twenty_one_to (unread x e) h = absurd (omega (arith, low_refusal s e))
    twenty_one_to (no_state_holds k l) h = absurd (omega arith)
    twenty_one_to (looping q w) h = absurd (omega arith)
    twenty_one_to (short q l) h = absurd (omega arith)
    twenty_one_to (bad_byte q i l b) h = (q, (i, l, b))
    twenty_one_to (miscounted q f) h = absurd (omega arith)
    twenty_one_to (fine q f) h = absurd (omega arith)

    twenty_one_from : {n p : ℕ} → QueryCase s state t n p → TableThere s state t × ((i : ℕ) × (i < cell_bytes s) × (2 < byte_at t i)) → n ≡ 21
    twenty_one_from (unread x e) h = absurd (not_refused s e h.0.free.there.accepted)
    twenty_one_from (no_state_holds k l) h = absurd (omega (arith, h.0.free.there.below))
    twenty_one_from (looping q w) h = absurd (h.0.free.none w)
    twenty_one_from (short q l) h = absurd (omega (arith, h.0.long))
    twenty_one_from (bad_byte q i l b) h = refl
    twenty_one_from (miscounted q f) h = absurd (omega (arith, q.small h.1.0 h.1.1, h.1.2))
    twenty_one_from (fine q f) h = absurd (omega (arith, q.small h.1.0 h.1.1, h.1.2))

    thirty_five_to : {n p : ℕ} → QueryCase s state t n p → n ≡ 35 → CellsRight s state t × (stored_count s t ≢ filled_cells s t)
    thirty_five_to (unread x e) h = absurd (omega (arith, low_refusal s e))
    thirty_five_to (no_state_holds k l) h = absurd (omega arith)
    thirty_five_to (looping q w) h = absurd (omega arith)
    thirty_five_to (short q l) h = absurd (omega arith)
    thirty_five_to (bad_byte q i l b) h = absurd (omega arith)
    thirty_five_to (miscounted q f) h = (q, f)
    thirty_five_to (fine q f) h = absurd (omega arith)

    thirty_five_from : {n p : ℕ} → QueryCase s state t n p → CellsRight s state t × (stored_count s t ≢ filled_cells s t) → n ≡ 35
    thirty_five_from (unread x e) h = absurd (not_refused s e h.0.there.free.there.accepted)
    thirty_five_from (no_state_holds k l) h = absurd (omega (arith, h.0.there.free.there.below))
    thirty_five_from (looping q w) h = absurd (h.0.there.free.none w)
    thirty_five_from (short q l) h = absurd (omega (arith, h.0.there.long))
    thirty_five_from (bad_byte q i l b) h = absurd (omega (arith, h.0.small i l))
    thirty_five_from (miscounted q f) h = refl
    thirty_five_from (fine q f) h = absurd (h.1 f)

    none_to : {n p : ℕ} → QueryCase s state t n p → n ≡ 0 → CellsRight s state t × (stored_count s t ≡ filled_cells s t)
    none_to (unread x e) h = absurd (omega (arith, refused_number x))
    none_to (no_state_holds k l) h = absurd (omega arith)
    none_to (looping q w) h = absurd (omega arith)
    none_to (short q l) h = absurd (omega arith)
    none_to (bad_byte q i l b) h = absurd (omega arith)
    none_to (miscounted q f) h = absurd (omega arith)
    none_to (fine q f) h = (q, f)

    none_from : {n p : ℕ} → QueryCase s state t n p → CellsRight s state t × (stored_count s t ≡ filled_cells s t) → n ≡ 0
    none_from (unread x e) h = absurd (not_refused s e h.0.there.free.there.accepted)
    none_from (no_state_holds k l) h = absurd (omega (arith, h.0.there.free.there.below))
    none_from (looping q w) h = absurd (h.0.there.free.none w)
    none_from (short q l) h = absurd (omega (arith, h.0.there.long))
    none_from (bad_byte q i l b) h = absurd (omega (arith, h.0.small i l))
    none_from (miscounted q f) h = absurd (f h.1)
    none_from (fine q f) h = refl

    unreadable_case : {n p : ℕ} → QueryCase s state t n p → (y : Refusal) → sheet_check s ≡ Err y → (n ≡ number_of y) × (p ≡ place_of y)
    unreadable_case (unread x e) y f = let same : x ≡ y = ap refusal_in (sym e ∙ f) in (ap number_of same, ap place_of same)
    unreadable_case (no_state_holds k l) y f = absurd (not_refused s f k)
    unreadable_case (looping q w) y f = absurd (not_refused s f q.accepted)
    unreadable_case (short q l) y f = absurd (not_refused s f q.there.accepted)
    unreadable_case (bad_byte q i l b) y f = absurd (not_refused s f q.free.there.accepted)
    unreadable_case (miscounted q g) y f = absurd (not_refused s f q.there.free.there.accepted)
    unreadable_case (fine q g) y f = absurd (not_refused s f q.there.free.there.accepted)

    -- of an accepted sheet the number is 0 or above 10
    accepted_case : {n p : ℕ} → QueryCase s state t n p → WellFormedSheet s → (n ≡ 0) ⊎ (10 < n)
    accepted_case (unread x e) k = absurd (not_refused s e k)
    accepted_case (no_state_holds j l) k = inr (omega arith)
    accepted_case (looping q w) k = inr (omega arith)
    accepted_case (short q l) k = inr (omega arith)
    accepted_case (bad_byte q i l b) k = inr (omega arith)
    accepted_case (miscounted q f) k = inr (omega arith)
    accepted_case (fine q f) k = inl refl

    place_zero : {n p : ℕ} → QueryCase s state t n p → WellFormedSheet s → p ≡ 0
    place_zero (unread x e) k = absurd (not_refused s e k)
    place_zero (no_state_holds j l) k = refl
    place_zero (looping q w) k = refl
    place_zero (short q l) k = refl
    place_zero (bad_byte q i l b) k = refl
    place_zero (miscounted q f) k = refl
    place_zero (fine q f) k = refl

    query_numbers : (r : Queried) → QueryCase s state t (reported_query r).number (reported_query r).place → QueryNumbers s state t r
    query_numbers r c = record {
      unreadable = unreadable_case c;
      in_order = given_in_order s (reported_query r).number (reported_query r).place (unreadable_case c) (λ e. accepted_case c (kept e));
      eleven = (eleven_to c, eleven_from c);
      twelve = (twelve_to c, twelve_from c);
      twenty = (twenty_to c, twenty_from c);
      twenty_one = (twenty_one_to c, twenty_one_from c);
      thirty_five = (thirty_five_to c, thirty_five_from c);
      none = (none_to c, none_from c);
      place = place_zero c;
    }

  -- ---- clearing

  module _ (t : List ℕ) where
    abbrev clear_report : Check → ClearReport
    clear_report c = reported_clear (answer_cleared c)

    -- the check, by whether the sheet is accepted and the buffer long enough
    abbrev size_check : Check
    size_check = require (leb (table_bytes s) (length t)) TableShort

    pub clear_unread : (x : Refusal) → sheet_check s ≡ Err x → clear_check s t ≡ Err x
    unfolding clear_check
    clear_unread x e = rw e

    pub clear_short : WellFormedSheet s → length t < table_bytes s → clear_check s t ≡ Err TableShort
    unfolding clear_check
    clear_short k h = rw (passed k, lt-leb (table_bytes s) (length t) h)

    pub clear_fits : WellFormedSheet s → table_bytes s ≤ length t → clear_check s t ≡ Ok tt
    unfolding clear_check
    clear_fits k h = rw (passed k, le-leb (table_bytes s) (length t) h)

    -- what was answered and left, by the check
    module _ (r : Cleared) (u : List ℕ) (q : Clears s t r u) where
      report_is : (c : Check) → clear_check s t ≡ c → reported_clear r ≡ clear_report c
      unfolding cleared_of
      report_is c e = q.1.0 ∙ ap clear_report e

      left_is : (c : Check) → clear_check s t ≡ c → u ≡ emptied (table_bytes s) t c
      unfolding table_cleared
      left_is c e = q.1.1 ∙ ap (emptied (table_bytes s) t) e

      number_is : (c : Check) → clear_check s t ≡ c → (reported_clear r).number ≡ (clear_report c).number
      number_is c e = ap (λ (x : ClearReport). x.number) (report_is c e)

      ordered : (sheet_check s ≡ Ok tt → ((reported_clear r).number ≡ 0) ⊎ (10 < (reported_clear r).number)) → GivenInOrder s (reported_clear r).number (reported_clear r).place
      ordered = given_in_order s (reported_clear r).number (reported_clear r).place
          (λ x e. (number_is (Err x) (clear_unread x e), ap (λ (y : ClearReport). y.place) (report_is (Err x) (clear_unread x e))))

      unread_numbers : (x : Refusal) → sheet_check s ≡ Err x → ClearNumbers s t r u
      unread_numbers x e =
          let n : (reported_clear r).number ≡ number_of x = number_is (Err x) (clear_unread x e) in
          let same : u ≡ t = left_is (Err x) (clear_unread x e) in
          record {
            unreadable = λ y f. report_is (Err y) (clear_unread y f);
            in_order = ordered (λ f. absurd (not_refused s e (kept f)));
            twenty = (λ h. absurd (omega (arith, low_refusal s e)), λ h. absurd (not_refused s e h.0));
            done = (λ h. absurd (omega (arith, refused_number x)), λ h. absurd (not_refused s e h.0));
            place = λ k. absurd (not_refused s e k);
            cleared = λ h. absurd (omega (arith, refused_number x));
            after = λ h. absurd (omega (arith, refused_number x));
            length_kept = ap length same;
            unchanged = λ h. same;
          }

      short_numbers : WellFormedSheet s → length t < table_bytes s → ClearNumbers s t r u
      short_numbers k h =
          let n : (reported_clear r).number ≡ 20 = number_is (Err TableShort) (clear_short k h) in
          let same : u ≡ t = left_is (Err TableShort) (clear_short k h) in
          record {
            unreadable = λ y f. absurd (not_refused s f k);
            in_order = ordered (λ f. inr (omega arith));
            twenty = (λ g. (k, h), λ g. n);
            done = (λ g. absurd (omega arith), λ g. absurd (omega (arith, g.1)));
            place = λ g. ap (λ (x : ClearReport). x.place) (report_is (Err TableShort) (clear_short k h));
            cleared = λ g. absurd (omega arith);
            after = λ g. absurd (omega arith);
            length_kept = ap length same;
            unchanged = λ g. same;
          }

      long_numbers : WellFormedSheet s → table_bytes s ≤ length t → ClearNumbers s t r u
      long_numbers k h =
          let n : (reported_clear r).number ≡ 0 = number_is (Ok tt) (clear_fits k h) in
          let same : u ≡ table_cleared s t = q.1.1 in
          record {
            unreadable = λ y f. absurd (not_refused s f k);
            in_order = ordered (λ f. inl n);
            twenty = (λ g. absurd (omega arith), λ g. absurd (omega (arith, g.1)));
            done = (λ g. (k, h), λ g. n);
            place = λ g. ap (λ (x : ClearReport). x.place) (report_is (Ok tt) (clear_fits k h));
            cleared = λ g i l. ap (λ (x : List ℕ). byte_at x i) same ∙ cleared_below s t (passed k) h i l;
            after = λ g i l. ap (λ (x : List ℕ). byte_at x i) same ∙ cleared_above s t (passed k) h i l;
            length_kept = ap length same ∙ cleared_length s t (passed k) h;
            unchanged = λ g. absurd (g n);
          }

      numbers : ClearNumbers s t r u
      numbers = elim (dec_lt (length t) (table_bytes s)) [ yes h ↦ by_sheet_short h (sheet_check s) refl | no h ↦ by_sheet_long (omega arith) (sheet_check s) refl ]
        where
          by_sheet_short : length t < table_bytes s → (c : Check) → sheet_check s ≡ c → ClearNumbers s t r u
          by_sheet_short h (Ok tt) e = short_numbers (kept e) h
          by_sheet_short h (Err x) e = unread_numbers x e

          by_sheet_long : table_bytes s ≤ length t → (c : Check) → sheet_check s ≡ c → ClearNumbers s t r u
          by_sheet_long h (Ok tt) e = long_numbers (kept e) h
          by_sheet_long h (Err x) e = unread_numbers x e

    -- ---- reading the count

    module _ (r : Counted) (q : ReadsCount s t r) where
      count_report : (c : Check) → clear_check s t ≡ c → reported_count r ≡ reported_count (answer_counted (stored_count s t) c)
      unfolding counted_of
      count_report c e = q.1 ∙ ap (λ (x : Check). reported_count (answer_counted (stored_count s t) x)) e

      count_numbers : CountNumbers s t r
      count_numbers = record {
        unreadable = λ x e. count_report (Err x) (clear_unread x e);
        in_order = given_in_order s (reported_count r).number (reported_count r).place
            (λ x e. (number_at_lem (count_report (Err x) (clear_unread x e)), ap (λ (y : CountReport). y.place) (count_report (Err x) (clear_unread x e))))
            (λ e. elim (dec_lt (length t) (table_bytes s)) [
              | yes h ↦ inr (omega (arith, number_at_lem (count_report (Err TableShort) (clear_short (kept e) h))))
              | no h ↦ inl (number_at_lem (count_report (Ok tt) (clear_fits (kept e) (omega arith))))
            ]);
        short = λ k h. count_report (Err TableShort) (clear_short k h);
        done = λ k h. count_report (Ok tt) (clear_fits k h);
      }
        where
          number_at_lem : {x y : CountReport} → x ≡ y → x.number ≡ y.number
          number_at_lem e = ap (λ (z : CountReport). z.number) e

pub call_numbers : CallNumbers
call_numbers = record {
  clears = λ s t r u q. numbers s t r u q;
  queries = λ s state t r u q.
      query_numbers s state t r
      (subst (λ (x : QueryReport). QueryCase s state t x.number x.place) (sym q.1.0) (query_case s state t));
  counts = count_numbers;
}
