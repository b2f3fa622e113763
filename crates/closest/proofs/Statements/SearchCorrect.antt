-- A search that is not refused: what is found, the cells filled, and that it is as queries in a row.
use Prim.Native.Nat.{ℕ, suc, ◌+◌, ◌≤◌}
use mathlib.Core.Path.{◌≡◌, refl, sym, ap, ap₂, subst, ◌∙◌}
use mathlib.Core.Bool.{Bool, true, true≢false}
use mathlib.Core.List.{List, [], ◌∷◌, ◌++◌, Memᴰ}
use mathlib.Core.Logic.{◌⊎◌, ◌↔◌, inl, inr}
use native.Mathlib.Omega.{arith}
use lib.ListN.{length}
use Rattle.sheet.specs.Contents.{plan_body, rule_body}
use Rattle.sheet.specs.Plan.{state_count}
use Rattle.sheet.specs.Reading.{sheet_check}
use Rattle.sheet.specs.WellFormed.{WellFormedPlan}
use Rattle.std.specs.Prelude.{Ok}
use Rattle.sheet.proofs.Acceptance.Parts.{bodies_kept}
use Rattle.graph.specs.LoopTest.{loop_free}
use Rattle.rows.specs.Rows.{conjunction, need}
use Rattle.rows.specs.Tables.{byte_at, filled, count, among, visits, table}
use Rattle.rows.proofs.Systems.Systems.{Each}
use Rattle.rows.proofs.Tables.Counting.{count_cong, count_le}
use Rattle.rows.proofs.Tables.Filling.{fill, fill_length, fill_filled}
use Rattle.judge.specs.Cells.{Cell, cell, enough, position_of, cell_bytes, cells_in, InTable}
use Rattle.judge.specs.StoredCount.{stored_count, table_with, HoldsCount}
use Rattle.judge.specs.OneSolution.{changed_rows}
use Rattle.judge.specs.Querying.{left_by}
use Rattle.judge.specs.Lists.{Calls}
use Rattle.judge.specs.InTurn.{solution_by, holds_by, root_cells, needed_in_turn}
use Rattle.judge.proofs.Cells.CountLayout.{cells_length, filled_cells_lem, count_layout}
use Rattle.judge.proofs.Lists.SheetLists.{Takes, takes_valid, Fine, query_passes, count_passes}
use Rattle.judge.proofs.Lists.FilledTables.{solved, left_byte, newly_filled, needed_filled, others_same}
use Rattle.judge.proofs.Statements.LargestTable.{every_table_fits}
use Rattle.judge.proofs.Statements.NeededCells.{needed_at, at_needed}
use Rattle.judge.proofs.Statements.OneSolution.{Settled, changed_falls, comes_on, comes_settled, solves}
use Rattle.closest.specs.Steps.{Steps, Earlier, Reached, reached_at, layers_from, reachable_states}
use Rattle.closest.specs.Finding.{Found, everywhere, fails_at, states_of, states_in_order, closest_found, searched, answer_found, table_searched, ClosestReport, reported_closest}
use Rattle.closest.specs.ClosestCorrect.{ReachableState, RightlyFound, TakenBy, ComesFromReachable, NeededByTaken, ClosestCorrect, AsQueries}
use Rattle.closest.proofs.Ways.Order.{Led, order_each, listed, states_in_order_lem, Says, says}
use Rattle.closest.proofs.Ways.Later.{reachable_exactly}
use Rattle.closest.proofs.Queries.Answers.{first_is_0, way_taken}
use Rattle.closest.proofs.Queries.InRow.{InRow, in_row, up_to_first}
use Rattle.closest.proofs.Queries.Looked.{among_looked, looked_among}
use Rattle.closest.proofs.Queries.UpToAnswer.{UpTo, looked_up_to, up_to_looked, failing_looked, looked_failing}

one_count : {p : List ℕ} {t n m : ℕ} → Steps p t n → Steps p t m → n ≡ m
one_count {n = n} {m} a b = omega (arith, a.fewest m b.way, b.fewest n a.way)

-- what is reported of a search that is not refused
abbrev pub report_of : Found → ℕ → ClosestReport
report_of f n = reported_closest (answer_found f n)

reported_visits : (f : Found) (n : ℕ) → (report_of f n).visits ≡ n
reported_visits everywhere n = refl
reported_visits (fails_at x) n = refl

module _ (s t : List ℕ) (accepted : sheet_check s ≡ Ok tt) (first : Takes s accepted 0) (fine : Fine s accepted t) where
  abbrev p : List ℕ
  p = plan_body s

  well_formed : WellFormedPlan p
  well_formed = (bodies_kept s accepted).plan_kept

  free : loop_free p 0 ≡ true
  free = (takes_valid s accepted 0 first).state_settled

  pub reached_taken : (state : ℕ) → ReachableState s state → Takes s accepted state
  reached_taken state r = way_taken s accepted free ((reachable_exactly p state).1 r).1

  settled_root : (state : ℕ) → Takes s accepted state → Settled s accepted (cell 0 0 state)
  settled_root state h = takes_valid s accepted state h

  -- ---- what is found

  abbrev Meets : (ℕ → Type 0) → Type 0
  Meets Holds = (state : ℕ) → ReachableState s state → (holds_by s t state ≡ true) ↔ Holds state

  reaches : {state n : ℕ} → Steps p state n → ReachableState s state
  reaches {state} {n} c = (reachable_exactly p state).0 (n, c.way)

  pub rightly_found : (Holds : ℕ → Type 0) → Meets Holds → (n : ℕ) → RightlyFound s Holds (report_of (closest_found s t) n)
  rightly_found Holds meets n = go (closest_found s t) (says p well_formed (holds_by s t))
    where
      go : (f : Found) → Says p (holds_by s t) f → RightlyFound s Holds (report_of f n)
      go everywhere h = record {
        fails = λ e. absurd (true≢false (sym e));
        steps_are = λ e. absurd (true≢false (sym e));
        closest = λ e. absurd (true≢false (sym e));
        everywhere = (λ e state r. (meets state r).0 (h state ((reachable_exactly p state).1 r)), λ a. refl);
        no_state_holds = λ e. (refl, refl);
      }
      go (fails_at x) h = record {
        fails = λ e k. true≢false (sym ((meets x.state (reaches h.0)).1 k) ∙ h.1);
        steps_are = λ e. h.0;
        closest = λ e state m c b. (meets state (reaches c)).0 (h.2 state m c b);
        everywhere = (λ e. absurd (true≢false e), λ a. absurd (true≢false (sym ((meets x.state (reaches h.0)).1 (a x.state (reaches h.0))) ∙ h.1)));
        no_state_holds = λ e. absurd (true≢false e);
      }

  -- ---- the cells

  abbrev v : Cell → Bool
  v = solution_by s t

  abbrev states : List ℕ
  states = states_in_order s

  abbrev l : List Cell
  l = needed_in_turn s states t

  abbrev u : List ℕ
  u = table_searched s t

  abbrev q : ClosestReport
  q = report_of (closest_found s t) (visits (searched s t))

  taken_up_to : (x : Reached) → Memᴰ x (reachable_states p) → UpTo (closest_found s t) x → TakenBy s q x.state
  taken_up_to x m h = record { steps = x.steps; counted = (listed p well_formed x.state x.steps).0 m; up_to = go (closest_found s t) h }
    where
      go : (f : Found) → UpTo f x → (report_of f (visits (searched s t))).found ≡ true
          → (x.state ≡ (report_of f (visits (searched s t))).state) ⊎ Earlier x.steps x.state (report_of f (visits (searched s t))).steps (report_of f (visits (searched s t))).state
      go everywhere h e = absurd (true≢false (sym e))
      go (fails_at y) (inl k) e = inl (ap (λ (z : Reached). z.state) k)
      go (fails_at y) (inr k) e = inr k

  up_to_taken : (state : ℕ) (k : TakenBy s q state) → UpTo (closest_found s t) (reached_at k.steps state)
  up_to_taken state k = go (closest_found s t) (says p well_formed (holds_by s t)) k.up_to
    where
      go : (f : Found) → Says p (holds_by s t) f
          → ((report_of f (visits (searched s t))).found ≡ true
          → (state ≡ (report_of f (visits (searched s t))).state) ⊎ Earlier k.steps state (report_of f (visits (searched s t))).steps (report_of f (visits (searched s t))).state)
          → UpTo f (reached_at k.steps state)
      go everywhere h w = tt
      go (fails_at y) h w = either (w refl)
        where
          either : (state ≡ y.state) ⊎ Earlier k.steps state y.steps y.state → UpTo (fails_at y) (reached_at k.steps state)
          either (inl e) = inl (λ i. reached_at (one_count k.counted (subst (λ (z : ℕ). Steps p z y.steps) (sym e) h.0) i) (e i))
          either (inr e) = inr e

  needed_here : (d : Cell) → InTable s d → among (position_of (rule_body s)) l (position_of (rule_body s) d) ≡ true → NeededByTaken s t v q d
  needed_here d h e =
      let r = among_looked (position_of (rule_body s)) conjunction v (need (changed_rows s t) enough) (position_of (rule_body s) d) (root_cells states) e in
      let k = looked_up_to v (states_in_order_lem p) r.1 in
      let x = k.by in
      let w = (listed p well_formed x.state x.steps).0 k.listed in (
        x.state,
        taken_up_to x k.listed k.up_to,
        needed_at s accepted (changed_rows s t) (changed_falls s accepted t) (cell 0 0 x.state) (settled_root x.state (reached_taken x.state (reaches w))) d h
            (ap (λ (c : Cell). among (position_of (rule_body s)) (need (changed_rows s t) enough c) (position_of (rule_body s) d)) (sym k.cell_is) ∙ r.2),
      )

  here_needed : (d : Cell) → NeededByTaken s t v q d → among (position_of (rule_body s)) l (position_of (rule_body s) d) ≡ true
  here_needed d n =
      let state = n.0 in
      let k = n.1 in
      looked_among (position_of (rule_body s)) conjunction v (need (changed_rows s t) enough) (position_of (rule_body s) d)
      (up_to_looked v (states_in_order_lem p) (reached_at k.steps state) ((listed p well_formed state k.steps).1 k.counted) (up_to_taken state k))
      (at_needed s accepted (changed_rows s t) (changed_falls s accepted t) (cell 0 0 state) (settled_root state (reached_taken state (reaches k.counted))) d n.2)

  -- ---- the table

  abbrev held : List ℕ
  held = cells_in s t

  abbrev total : ℕ
  total = stored_count s t + visits (searched s t)

  fits : cell_bytes s ≤ length held
  fits = omega (arith, cells_length s t fine.long)

  pub left_is : u ≡ table_with s (table (searched s t)) total t
  unfolding table_searched
  left_is = ap₂ (left_by s (searched s t) t) (query_passes s accepted t fine 0 first) (count_passes s accepted t fine)

  -- as many more cells are filled
  grown : total ≡ count (cell_bytes s) (λ i. filled (byte_at (fill (solved s accepted) held l) i))
  grown = ap (λ (n : ℕ). n + visits (searched s t)) (fine.counted ∙ filled_cells_lem s t) ∙ fill_filled (solved s accepted) held l fits

  left : HoldsCount s (fill (solved s accepted) held l) total t u
  left =
      subst (HoldsCount s (fill (solved s accepted) held l) total t) (sym left_is)
      (count_layout s (fill (solved s accepted) held l) total t (fill_length (solved s accepted) held l ∙ cells_length s t fine.long) fine.long
      (omega (arith, grown, count_le (cell_bytes s) (λ i. filled (byte_at (fill (solved s accepted) held l) i)), (every_table_fits s accepted).0)))

  pub correct : ClosestCorrect s t q u
  correct = record {
    solution = v;
    one_solution =
        solves s accepted (changed_rows s t) (changed_falls s accepted t) (ComesFromReachable s t)
        (λ c g. comes_settled s accepted (changed_rows s t) (changed_falls s accepted t) (cell 0 0 g.0) c (settled_root g.0 (reached_taken g.0 g.1)) g.2)
        (λ c d g m. (g.0, g.1, comes_on (changed_rows s t) (cell 0 0 g.0) c d g.2 m));
    found = rightly_found (λ state. holds_by s t state ≡ true) (λ state r. (λ e. e, λ e. e)) (visits (searched s t));
    fills = needed_filled s accepted t fine.long l left (NeededByTaken s t v q) needed_here here_needed;
    others = others_same s accepted t fine.long l left (NeededByTaken s t v q) needed_here here_needed;
    past = left.past;
    length_kept = left.length_kept;
    visits_are = reported_visits (closest_found s t) (visits (searched s t)) ∙ newly_filled s accepted t fine.long l left;
    count_grows = left.count_is ∙ ap (λ (n : ℕ). stored_count s t + n) (sym (reported_visits (closest_found s t) (visits (searched s t))));
    count_right_holds = left.count_is ∙ grown ∙ count_cong (cell_bytes s) _ _ (λ i h. ap filled (sym (left_byte s accepted t fine.long l left i h)));
  }

  -- ---- as queries in a row

  each_state : (l : List Reached) → Each (Led p) l → Each (Takes s accepted) (states_of l)
  each_state [] e = tt
  each_state (x ∷ l) e = (way_taken s accepted free e.0, each_state l e.1)

  row : InRow s accepted states t
  row = go (states_in_order s) (ap states_of (first_is_0 s accepted)) (each_state (reachable_states p) (order_each p (suc (state_count p)) 0))
    where
      go : (l : List ℕ) → l ≡ 0 ∷ states_of (layers_from p (state_count p) 1) → Each (Takes s accepted) l → InRow s accepted l t
      go [] e each = let z : ◌≡◌ {A = ℕ} 0 1 = cc in absurd (omega arith)
      go (x ∷ l) e each = in_row s accepted x l each t fine

  pub as_queries : AsQueries s t q u
  as_queries = record {
    states = row.states;
    taken = λ state. (
      λ m.
          let k = looked_up_to v (states_in_order_lem p) (failing_looked v states state (subst (Memᴰ state) row.states_are m)) in
          subst (TakenBy s q) (sym (ap (λ (c : Cell). c.state) k.cell_is)) (taken_up_to k.by k.listed k.up_to),
      λ k. subst (Memᴰ state) (sym row.states_are)
          (looked_failing v states
          (up_to_looked v (states_in_order_lem p) (reached_at k.steps state) ((listed p well_formed state k.steps).1 k.counted) (up_to_taken state k))),
    );
    in_order = let r = up_to_first (holds_by s t) states in (r.0, r.1 ∙ ap (λ (l : List ℕ). l ++ r.0) (sym row.states_are));
    answers = row.answers;
    calls = subst (Calls s t row.states row.answers) (row.left_is ∙ sym left_is) row.calls;
    judged = row.judged;
    sum = row.sum ∙ sym (reported_visits (closest_found s t) (visits (searched s t)));
  }
