-- Queries in turn are calls of `query`, one after the other up to the first whose verdict is false.
use Prim.Native.Nat.{ℕ, ◌+◌}
use mathlib.Core.Path.{◌≡◌, refl, sym, ap, ap₂, ◌∙◌}
use mathlib.Core.Bool.{Bool, true, false}
use mathlib.Core.List.{List, [], ◌∷◌, ◌++◌}
use native.Mathlib.Omega.{arith}
use lib.ListN.{length, drop}
use lib.Seq.{drop-append-add}
use Rattle.sheet.specs.Bytes.{pick}
use Rattle.sheet.specs.Reading.{sheet_check}
use Rattle.std.specs.Prelude.{Ok}
use Rattle.rows.specs.Rows.{conjunction, decides}
use Rattle.rows.specs.Tables.{Result, out, verdict, visits, table, query}
use Rattle.rows.specs.Internal.Solver.{walk, after}
use Rattle.rows.proofs.Systems.Systems.{Each}
use Rattle.rows.proofs.Systems.Fuel.{each_map}
use Rattle.rows.proofs.Systems.Needs.{solution}
use Rattle.rows.proofs.Tables.Extension.{Extends, extension_value}
use Rattle.rows.proofs.Solver.Solved.{query_right}
use Rattle.rows.proofs.Solver.Solver.{walk_decided, walk_on}
use Rattle.rows.proofs.Solver.Walks.{query_answer, walk_solves, Solves}
use Rattle.judge.specs.Cells.{cell, cell_bytes, table_bytes, cells_in}
use Rattle.judge.specs.StoredCount.{in_four_bytes, stored_count, table_with, HoldsCount}
use Rattle.judge.specs.Querying.{result_at, result_of, left_by, QueryReport, queried_of, query_report_of, table_queried}
use Rattle.judge.specs.InTurn.{holds_by, root_cells, result_in_turn}
use Rattle.judge.specs.Lists.{Calls, none, call, Reported, visits_of}
use Rattle.judge.proofs.Cells.CountLayout.{cells_length}
use Rattle.judge.proofs.Lists.SheetLists.{Takes, takes_valid, Fine, query_passes, count_passes, judged_report, holds, fine_after}
use Rattle.judge.proofs.Lists.FilledTables.{solved}

-- cells and a count put into a table that was so made
with_twice : (s cells : List ℕ) (n : ℕ) (cells' : List ℕ) (m : ℕ) (t : List ℕ) → length cells ≡ cell_bytes s
    → table_with s cells' m (table_with s cells n t) ≡ table_with s cells' m t
with_twice s cells n cells' m t size =
    ap (λ (rest : List ℕ). cells' ++ (in_four_bytes m ++ rest))
    (ap (λ (k : ℕ). drop (k + 4) (table_with s cells n t)) (sym size) ∙ drop-append-add cells (in_four_bytes n ++ drop (table_bytes s) t) 4)

-- the states of a list up to the first that fails a test
unfoldable pub up_to_failing : (ℕ → Bool) → List ℕ → List ℕ
up_to_failing v [] = []
up_to_failing v (x ∷ l) = x ∷ pick (v x) (up_to_failing v l) []

up_to_same : (v w : ℕ → Bool) (l : List ℕ) → Each (λ x. v x ≡ w x) l → up_to_failing v l ≡ up_to_failing w l
unfolding up_to_failing
up_to_same v w [] e = refl
up_to_same v w (x ∷ l) e = rw (e.0, up_to_same v w l e.1) refl

pub up_to_first : (v : ℕ → Bool) (l : List ℕ) → (rest : List ℕ) × (l ≡ up_to_failing v l ++ rest)
unfolding up_to_failing
up_to_first v [] = ([], refl)
up_to_first v (x ∷ l) = go (v x) (up_to_first v l)
  where
    go : (b : Bool) → (rest : List ℕ) × (l ≡ up_to_failing v l ++ rest) → (rest : List ℕ) × (x ∷ l ≡ (x ∷ pick b (up_to_failing v l) []) ++ rest)
    go true r = (r.0, ap (λ (k : List ℕ). x ∷ k) r.1)
    go false r = (l, refl)

module _ (s : List ℕ) (accepted : sheet_check s ≡ Ok tt) where
  -- the walk along the cells of some states
  abbrev along : List ℕ → List ℕ → Result
  along l held = walk (result_at s) conjunction (root_cells l) held

  -- a table whose bytes past the count are those of another
  abbrev Over : List ℕ → List ℕ → Type 0
  Over t₀ t = t ≡ table_with s (cells_in s t) (stored_count s t) t₀

  -- calls on the table t that fill and leave what the walk does, past the count as t₀
  record RowOfCalls (t₀ l t : List ℕ) : Type 0 where
    pub states : List ℕ
    pub states_are : states ≡ up_to_failing (holds_by s t) l
    pub answers : List QueryReport
    pub left : List ℕ
    pub calls : Calls s t states answers left
    pub judged : Reported (λ state a. a.number ≡ 0) states answers
    pub sum : visits_of answers ≡ visits (along l (cells_in s t))
    pub left_is : left ≡ table_with s (table (along l (cells_in s t))) (stored_count s t + visits (along l (cells_in s t))) t₀

  module _ (t₀ t : List ℕ) (fine : Fine s accepted t) (x : ℕ) (taken : Takes s accepted x) (l : List ℕ) (each : Each (Takes s accepted) l) where
    abbrev held : List ℕ
    held = cells_in s t

    abbrev result : Result
    result = result_of s x t

    abbrev u : List ℕ
    u = table_queried s x t

    report : query_report_of s x t ≡ record { number = 0; place = 0; verdict = verdict result; visits = visits result }
    report = judged_report s accepted t fine x taken

    reported_visits : (query_report_of s x t).visits ≡ visits result
    reported_visits = ap (λ (q : QueryReport). q.visits) report

    one_call : {states : List ℕ} {answers : List QueryReport} {left : List ℕ} → Calls s u states answers left → Calls s t (x ∷ states) (query_report_of s x t ∷ answers) left
    one_call rest = call (queried_of s x t) (refl, (refl, refl)) rest

    left : HoldsCount s (table result) (stored_count s t + visits result) t u
    left = holds s accepted (solved s accepted) (takes_valid s accepted) t fine x taken

    fine_left : Fine s accepted u
    fine_left = fine_after s accepted (solved s accepted) (takes_valid s accepted) t fine x taken

    abbrev table_is : List ℕ → Type 0
    table_is w = u ≡ table_with s (table result) (stored_count s t + visits result) w

    -- the table of the query, past the count
    left_over : table_is t
    unfolding table_queried
    left_over = ap₂ (left_by s result t) (query_passes s accepted t fine x taken) (count_passes s accepted t fine)

    over_next : table_is t₀ → Over t₀ u
    over_next e = e ∙ (λ i. table_with s (sym left.cells_are i) (sym left.count_is i) t₀)

    -- the other verdicts are as by the first table
    same_verdicts : up_to_failing (holds_by s u) l ≡ up_to_failing (holds_by s t) l
    same_verdicts =
        up_to_same (holds_by s u) (holds_by s t) l
        (each_map (λ y (h : Takes s accepted y).
        ap (λ (cells : List ℕ). solution (solved s accepted) cells (cell 0 0 y)) left.cells_are
        ∙ extension_value (solved s accepted) held (table result) extends (cell 0 0 y) (takes_valid s accepted y h)) l each)
      where
        extends : Extends (solved s accepted) held (table result)
        extends = (query_right (solved s accepted) held (cell 0 0 x) (omega (arith, cells_length s t fine.long)) (takes_valid s accepted x taken)).extends

    split : (r : Result) → r ≡ out (verdict r) (visits r) (table r)
    split (out v n w) = refl

    one_more : table_is t₀ → (Over t₀ u → RowOfCalls t₀ l u) → RowOfCalls t₀ (x ∷ l) t
    unfolding visits_of up_to_failing query
    one_more e rest = go (verdict result) refl
      where
        go : (b : Bool) → verdict result ≡ b → RowOfCalls t₀ (x ∷ l) t
        go true q = record {
          states = x ∷ r.states;
          states_are =
              ap (λ (k : List ℕ). x ∷ k) (r.states_are ∙ same_verdicts) ∙ sym (ap (λ (b : Bool). x ∷ pick b (up_to_failing (holds_by s t) l) []) q);
          answers = query_report_of s x t ∷ r.answers;
          left = r.left;
          calls = one_call r.calls;
          judged = (ap (λ (q : QueryReport). q.number) report, r.judged);
          sum = ap₂ ◌+◌ reported_visits r.sum ∙ counts;
          left_is =
              let sum : stored_count s u + visits (along l (cells_in s u)) ≡ stored_count s t + visits (along (x ∷ l) held) = omega (arith, left.count_is, counts) in
              r.left_is ∙ (λ i. table_with s (sym (ap table walked ∙ after_table (visits result) (along l (cells_in s u))) i) (sum i) t₀);
        }
          where
            r : RowOfCalls t₀ l u
            r = rest (over_next e)

            walked : along (x ∷ l) held ≡ after (visits result) (along l (cells_in s u))
            walked =
                walk_on (result_at s) conjunction (cell 0 0 x) (root_cells l) held (verdict result) (visits result) (table result) (split result) (ap (decides conjunction) q)
                ∙ ap (λ (cells : List ℕ). after (visits result) (along l cells)) (sym left.cells_are)

            after_visits_lem : (n : ℕ) (w : Result) → visits (after n w) ≡ n + visits w
            after_visits_lem n (out v k w) = refl

            after_table : (n : ℕ) (w : Result) → table (after n w) ≡ table w
            after_table n (out v k w) = refl

            counts : visits result + visits (along l (cells_in s u)) ≡ visits (along (x ∷ l) held)
            counts = sym (ap visits walked ∙ after_visits_lem (visits result) (along l (cells_in s u)))
        go false q = record {
          states = x ∷ [];
          states_are = sym (ap (λ (b : Bool). x ∷ pick b (up_to_failing (holds_by s t) l) []) q);
          answers = query_report_of s x t ∷ [];
          left = u;
          calls = one_call none;
          judged = (ap (λ (q : QueryReport). q.number) report, tt);
          sum = omega (arith, reported_visits, ap visits walked);
          left_is = e ∙ (λ i. table_with s (table (sym walked i)) (stored_count s t + visits (sym walked i)) t₀);
        }
          where
            walked : along (x ∷ l) held ≡ result
            walked =
                walk_decided (result_at s) conjunction (cell 0 0 x) (root_cells l) held (verdict result) (visits result) (table result) (split result) (ap (decides conjunction) q)
                ∙ sym (split result)

  later_ones : (t₀ l : List ℕ) → Each (Takes s accepted) l → (t : List ℕ) → Fine s accepted t → Over t₀ t → RowOfCalls t₀ l t
  unfolding walk visits_of up_to_failing
  later_ones t₀ [] each t fine over =
      let add : stored_count s t ≡ stored_count s t + 0 = omega arith in
      record { states = []; states_are = refl; answers = []; left = t; calls = none; judged = tt; sum = refl; left_is = over ∙ ap (λ (n : ℕ). table_with s (cells_in s t) n t₀) add }
  later_ones t₀ (x ∷ l) each t fine over =
      one_more t₀ t fine x each.0 l each.1 past (later_ones t₀ l each.1 (table_queried s x t) (fine_left t₀ t fine x each.0 l each.1))
    where
      r : Result
      r = result_of s x t

      past : table_queried s x t ≡ table_with s (table r) (stored_count s t + visits r) t₀
      past =
          left_over t₀ t fine x each.0 l each.1 ∙ ap (table_with s (table r) (stored_count s t + visits r)) over
          ∙ with_twice s (cells_in s t) (stored_count s t) (table r) (stored_count s t + visits r) t₀ (cells_length s t fine.long)

  -- the walk gives what is defined of queries in turn
  walked_in_turn : (l : List ℕ) → Each (Takes s accepted) l → (t : List ℕ) → Fine s accepted t → along l (cells_in s t) ≡ result_in_turn s l t
  walked_in_turn l each t fine =
      walk_solves (solved s accepted) (result_at s) conjunction (root_cells l) (each_cell l each) (cells_in s t) (omega (arith, cells_length s t fine.long))
    where
      each_cell : (l : List ℕ) → Each (Takes s accepted) l → Each (Solves (solved s accepted) (result_at s)) (root_cells l)
      each_cell [] e = tt
      each_cell (x ∷ l) e = ((takes_valid s accepted x e.0, λ u f. query_answer (solved s accepted) u (cell 0 0 x)), each_cell l e.1)

  -- of a list that has a first state: such calls, and what they fill and leave
  pub record InRow (l t : List ℕ) : Type 0 where
    pub states : List ℕ
    pub states_are : states ≡ up_to_failing (holds_by s t) l
    pub answers : List QueryReport
    pub left : List ℕ
    pub calls : Calls s t states answers left
    pub judged : Reported (λ state a. a.number ≡ 0) states answers
    pub sum : visits_of answers ≡ visits (result_in_turn s l t)
    pub left_is : left ≡ table_with s (table (result_in_turn s l t)) (stored_count s t + visits (result_in_turn s l t)) t

  pub in_row : (x : ℕ) (l : List ℕ) → Each (Takes s accepted) (x ∷ l) → (t : List ℕ) → Fine s accepted t → InRow (x ∷ l) t
  in_row x l each t fine =
      let r : RowOfCalls t (x ∷ l) t =
      one_more t t fine x each.0 l each.1 (left_over t t fine x each.0 l each.1) (later_ones t l each.1 (table_queried s x t) (fine_left t t fine x each.0 l each.1)) in
      let w = walked_in_turn (x ∷ l) each t fine in
      record {
        states = r.states;
        states_are = r.states_are;
        answers = r.answers;
        left = r.left;
        calls = r.calls;
        judged = r.judged;
        sum = r.sum ∙ ap visits w;
        left_is = r.left_is ∙ ap (λ (y : Result). table_with s (table y) (stored_count s t + visits y) t) w;
      }
