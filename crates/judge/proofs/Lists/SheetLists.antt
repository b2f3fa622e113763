-- A list of queries of an accepted sheet: refused are exactly the queries of states that the plan doesn't have or from which a loop can be reached, and
-- the others are the queries at (0, 0, state), with the same table handed on.
use Rattle.std.proofs.Common.{◌≡◌, ℕ, ◌+◌, ◌<◌, ◌≤◌, Bool, true, false, ◌&&◌, eqb, ltb, ◌⊎◌, List, [], ◌∷◌, map, length, sym, refl, ap, ◌∙◌, subst, ap₂, inl, inr, true≢false, arith, ltb-true, le-ltb, eq-eqb, le-leb}
use Rattle.sheet.specs.Bytes.{pick}
use Rattle.sheet.specs.Contents.{plan_body, actions_body, rule_body}
use Rattle.sheet.specs.Plan.{state_count}
use Rattle.sheet.specs.Refusals.{require, and_then}
use Rattle.sheet.specs.Reading.{sheet_check}
use Rattle.sheet.specs.declared.Refusal.{Refusal}
use Rattle.sheet.specs.declared.Refusal.TheVariants.{NoSuchState, Loop}
use Rattle.std.specs.Prelude.{Err, Ok}
use Rattle.sheet.specs.Refusals.{Check}
use Rattle.sheet.proofs.Checks.Checks.{and_parts, none_found}
use Rattle.sheet.proofs.Acceptance.Parts.{bodies_kept}
use Rattle.rows.specs.Tables.{byte_at, filled, count, Result, verdict, visits, table}
use Rattle.judge.specs.Cells.{Cell, cell, rows, enough, position_of, cell_at, cell_bytes, table_bytes, cells_in}
use Rattle.judge.specs.StoredCount.{stored_count, filled_cells, table_with, HoldsCount}
use Rattle.graph.specs.LoopTest.{loop_free}
use Rattle.judge.specs.Querying.{bytes_right, query_check, count_right, result_of, answer_queried, queried_of, left_by, table_queried, QueryReport, reported_query}
use Rattle.std.specs.Prelude.{Err}
use Rattle.judge.specs.declared.QueryError.TheVariants.{Refused}
use Rattle.judge.specs.Lists.{reports, table_after, Reported, SameAnswers, visits_of, judged_states}
use Rattle.rows.proofs.Systems.Systems.{Each, queries, total, final, Solvable}
use Rattle.rows.proofs.Tables.Counting.{count_cong, count_none, count_le}
use Rattle.rows.proofs.Solver.Solved.{Right, query_right}
use Rattle.rows.proofs.Lists.Lists.{query_filled}
use Rattle.judge.proofs.Cells.ValidCells.{Valid, root_valid}
use Rattle.judge.proofs.Cells.CountLayout.{cells_byte, cells_length, zero_count, filled_cells_lem, count_layout}
use Rattle.judge.proofs.Steps.DecideSteps.{size_small}

-- whether a plan has a state, and no loop can be reached from it
abbrev pub takes : List ℕ → ℕ → Bool
takes p state = ltb state (state_count p) && loop_free p state

-- the number that else refuses its query
abbrev pub refusal_number : List ℕ → ℕ → ℕ
refusal_number p state = pick (ltb state (state_count p)) 12 11

-- what an answer tells of a state: judged with the value of its cell, or refused
abbrev pub Answer : List ℕ → (Cell → Bool) → ℕ → QueryReport → Type 0
Answer p v state q =
    ((takes p state ≡ true) × (q.number ≡ 0) × (q.verdict ≡ v (cell 0 0 state))) ⊎ ((takes p state ≡ false) × (q.number ≡ refusal_number p state) × (q.verdict ≡ false))

pub reported_map : {P Q : ℕ → QueryReport → Type 0} → ((state : ℕ) (q : QueryReport) → P state q → Q state q) → (states : List ℕ) (qs : List QueryReport) → Reported P states qs → Reported Q states qs
reported_map h [] [] r = tt
reported_map h [] (q ∷ qs) r = r
reported_map h (state ∷ states) [] r = r
reported_map h (state ∷ states) (q ∷ qs) r = (h state q r.0, reported_map h states qs r.1)

module _ (p : List ℕ) (v w : Cell → Bool) (agree : (state : ℕ) → takes p state ≡ true → v (cell 0 0 state) ≡ w (cell 0 0 state)) where
  same_answer : (state : ℕ) (q q' : QueryReport) → Answer p v state q → Answer p w state q' → (q.number ≡ q'.number) × (q.verdict ≡ q'.verdict)
  same_answer state q q' (inl a) (inl b) = (a.1 ∙ sym b.1, a.2 ∙ (agree state a.0 ∙ sym b.2))
  same_answer state q q' (inl a) (inr b) = absurd (true≢false (sym a.0 ∙ b.0))
  same_answer state q q' (inr a) (inl b) = absurd (true≢false (sym b.0 ∙ a.0))
  same_answer state q q' (inr a) (inr b) = (a.1 ∙ sym b.1, a.2 ∙ sym b.2)

  -- where values agree, so do the answers
  pub same_answers : (states : List ℕ) (qs qs' : List QueryReport) → Reported (Answer p v) states qs → Reported (Answer p w) states qs' → SameAnswers qs qs'
  same_answers [] [] [] a b = tt
  same_answers [] [] (q ∷ qs) a b = b
  same_answers [] (q ∷ qs) qs' a b = absurd a
  same_answers (state ∷ states) [] qs' a b = absurd a
  same_answers (state ∷ states) (q ∷ qs) [] a b = absurd b
  same_answers (state ∷ states) (q ∷ qs) (q' ∷ qs') a b = (same_answer state q q' a.0 b.0, same_answers states qs qs' a.1 b.1)

module _ (s : List ℕ) (accepted : sheet_check s ≡ Ok tt) where
  -- the states whose queries are not refused
  abbrev pub Takes : ℕ → Type 0
  Takes state = takes (plan_body s) state ≡ true

  abbrev states_of : ℕ
  states_of = state_count (plan_body s)

  -- the cell of such a query
  pub takes_valid : (state : ℕ) → Takes state → Valid (plan_body s) (actions_body s) (rule_body s) (cell 0 0 state)
  takes_valid state h =
      let b = and_parts (ltb state states_of) (loop_free (plan_body s) state) h in
      root_valid (bodies_kept s accepted).rule_kept state (ltb-true state states_of b.0) b.1

  -- a table that a query takes: long enough, no byte of the cells over 2, and the count right
  pub record Fine (u : List ℕ) : Type 0 where
    pub long : table_bytes s ≤ length u
    pub small : (i : ℕ) → i < cell_bytes s → byte_at u i ≤ 2
    pub counted : stored_count s u ≡ filled_cells s u

  -- a table of zeros
  pub zero_fine : (u : List ℕ) → table_bytes s ≤ length u → ((i : ℕ) → i < table_bytes s → byte_at u i ≡ 0) → Fine u
  zero_fine u long zero = record {
    long = long;
    small = λ i h. omega (arith, zero i (omega arith));
    counted =
        zero_count s u zero
        ∙ sym (count_none (cell_bytes s) (λ i. filled (byte_at u i)) (λ i h. ap filled (zero i (omega arith))));
  }

  pub query_passes : (u : List ℕ) → Fine u → (state : ℕ) → Takes state → query_check s state u ≡ Ok tt
  unfolding query_check bytes_right
  query_passes u fine state h =
      let b = and_parts (ltb state states_of) (loop_free (plan_body s) state) h in
      rw (
        accepted,
        b.0,
        b.1,
        le-leb (table_bytes s) (length u) fine.long,
        (none_found (λ i. ltb 2 (byte_at u i)) (cell_bytes s)).1 (λ i l. le-ltb 2 (byte_at u i) (fine.small i l)),
      )

  pub count_passes : (u : List ℕ) → Fine u → count_right s u ≡ true
  unfolding count_right
  count_passes u fine = eq-eqb (stored_count s u) (filled_cells s u) fine.counted

  -- the refusal of a state that is not taken
  abbrev refusal : ℕ → Refusal
  refusal state = pick (ltb state states_of) Loop NoSuchState

  pub query_fails : (u : List ℕ) (state : ℕ) → takes (plan_body s) state ≡ false → query_check s state u ≡ Err (refusal state)
  unfolding query_check
  query_fails u state h = rw accepted (go (ltb state states_of) (loop_free (plan_body s) state) h _)
    where
      go : (b c : Bool) → (b && c) ≡ false → (next : Check) → and_then (require b NoSuchState) (and_then (require c Loop) next) ≡ Err (pick b Loop NoSuchState)
      go true true h next = absurd (true≢false h)
      go true false h next = refl
      go false c h next = refl

  pub judged_report : (u : List ℕ) → Fine u → (state : ℕ) → Takes state
      → reported_query (queried_of s state u) ≡ record { number = 0; place = 0; verdict = verdict (result_of s state u); visits = visits (result_of s state u) }
  unfolding queried_of
  judged_report u fine state h = ap₂ (λ (c : Check) (b : Bool). reported_query (answer_queried (result_of s state u) c b)) (query_passes u fine state h) (count_passes u fine)

  judged_table : (u : List ℕ) → Fine u → (state : ℕ) → Takes state
      → table_queried s state u ≡ table_with s (table (result_of s state u)) (stored_count s u + visits (result_of s state u)) u
  unfolding table_queried
  judged_table u fine state h = ap₂ (left_by s (result_of s state u) u) (query_passes u fine state h) (count_passes u fine)

  abbrev refused_report : ℕ → QueryReport
  refused_report state = record { number = refusal_number (plan_body s) state; place = 0; verdict = false; visits = 0 }

  pub refused : (u : List ℕ) (state : ℕ) → takes (plan_body s) state ≡ false → reported_query (queried_of s state u) ≡ refused_report state
  unfolding queried_of
  refused u state h = ap (λ (c : Check). reported_query (answer_queried (result_of s state u) c (count_right s u))) (query_fails u state h) ∙ go (ltb state states_of)
    where
      go : (b : Bool) → reported_query (Err (Refused (pick b Loop NoSuchState))) ≡ record { number = pick b 12 11; place = 0; verdict = false; visits = 0 }
      go true = refl
      go false = refl

  pub refused_table : (u : List ℕ) (state : ℕ) → takes (plan_body s) state ≡ false → table_queried s state u ≡ u
  unfolding table_queried
  refused_table u state h = ap (λ (c : Check). left_by s (result_of s state u) u c (count_right s u)) (query_fails u state h)

  -- the queries at a list of cells, on the cells of a table
  abbrev ask_on : List ℕ → List Cell → List Result
  ask_on held cs = queries (position_of (rule_body s)) (cell_bytes s) (cell_at (rule_body s)) (rows (plan_body s) (actions_body s) (rule_body s)) enough held cs

  abbrev pub ask : List ℕ → List Cell → List Result
  ask u cs = ask_on (cells_in s u) cs

  -- (0, 0, state) for each state of a list
  abbrev pub starts : List ℕ → List Cell
  starts l = map (cell 0 0) l

  -- the queries of a list of states, of which those of l are taken
  pub record Run (states u l : List ℕ) : Type 0 where
    pub ends : cells_in s (table_after s u states) ≡ final (cells_in s u) (ask u (starts l))
    pub counted : stored_count s (table_after s u states) ≡ stored_count s u + total (ask u (starts l))
    pub past : (i : ℕ) → table_bytes s ≤ i → byte_at (table_after s u states) i ≡ byte_at u i
    pub kept : length (table_after s u states) ≡ length u
    pub sum : visits_of (reports s u states) ≡ total (ask u (starts l))
    pub judged : judged_states states (reports s u states) ≡ l
    pub answers : (v : Cell → Bool) → map verdict (ask u (starts l)) ≡ map v (starts l) → Reported (Answer (plan_body s) v) states (reports s u states)

  -- the states that are taken
  unfoldable pub taken_states : List ℕ → List ℕ
  taken_states [] = []
  taken_states (state ∷ states) = pick (takes (plan_body s) state) (state ∷ taken_states states) (taken_states states)

  module _ {Valid : Cell → Type 0} {rank : Cell → ℕ} (solvable : Solvable (position_of (rule_body s)) (rows (plan_body s) (actions_body s) (rule_body s)) (cell_bytes s) (cell_at (rule_body s)) Valid rank enough)
      (start : (state : ℕ) → Takes state → Valid (cell 0 0 state)) where
    -- what a query that is not refused leaves
    module _ (u : List ℕ) (fine : Fine u) (state : ℕ) (h : Takes state) where
      abbrev result : Result
      result = result_of s state u

      long : cell_bytes s ≤ length (cells_in s u)
      long = omega (arith, cells_length s u fine.long)

      right : Right solvable (cells_in s u) (table result)
      right = query_right solvable (cells_in s u) (cell 0 0 state) long (start state h)

      -- as many more cells are filled as there were visits
      grown : stored_count s u + visits result ≡ count (cell_bytes s) (λ i. filled (byte_at (table result) i))
      grown = ap (λ (n : ℕ). n + visits result) (fine.counted ∙ filled_cells_lem s u) ∙ query_filled solvable (cells_in s u) long (cell 0 0 state)

      pub holds : HoldsCount s (table result) (stored_count s u + visits result) u (table_queried s state u)
      holds = subst (HoldsCount s (table result) (stored_count s u + visits result) u) (sym (judged_table u fine state h))
          (count_layout s (table result) (stored_count s u + visits result) u (right.long ∙ cells_length s u fine.long) fine.long
          (omega (arith, grown, count_le (cell_bytes s) (λ i. filled (byte_at (table result) i)), size_small s accepted)))

      -- the byte of a cell in the table that is left
      pub same_byte : (i : ℕ) → i < cell_bytes s → byte_at (table_queried s state u) i ≡ byte_at (table result) i
      same_byte i l = sym (cells_byte s (table_queried s state u) i l) ∙ ap (λ (k : List ℕ). byte_at k i) holds.cells_are

      pub fine_after : Fine (table_queried s state u)
      fine_after = record {
        long = rw holds.length_kept fine.long;
        small = λ i l. rw (same_byte i l) (right.small i (rw (cells_byte s u i l) (fine.small i l)));
        counted = holds.count_is ∙ grown ∙ count_cong (cell_bytes s) _ _ (λ i l. ap filled (sym (same_byte i l)));
      }

      judged_run : (states l : List ℕ) → Run states (table_queried s state u) l → Run (state ∷ states) u (state ∷ l)
      unfolding reports table_after visits_of queries total final judged_states
      judged_run states l r = record {
        ends = r.ends ∙ ap (λ (held : List ℕ). final held (ask_on held (starts l))) holds.cells_are;
        counted = r.counted ∙ omega (arith, holds.count_is, ap (λ (held : List ℕ). total (ask_on held (starts l))) holds.cells_are);
        past = λ i m. r.past i m ∙ holds.past i m;
        kept = r.kept ∙ holds.length_kept;
        sum =
            ap₂ ◌+◌ (ap (λ (q : QueryReport). q.visits) (judged_report u fine state h))
            (r.sum ∙ ap (λ (held : List ℕ). total (ask_on held (starts l))) holds.cells_are);
        judged =
            ap (λ (q : QueryReport). judged_states (state ∷ states) (q ∷ reports s (table_queried s state u) states)) (judged_report u fine state h)
            ∙ ap (λ (k : List ℕ). state ∷ k) r.judged;
        answers = λ v e.
            let here : verdict result ≡ v (cell 0 0 state) = cc in
            let rest : map verdict (ask_on (table result) (starts l)) ≡ map v (starts l) = cc in (
              subst (Answer (plan_body s) v state) (sym (judged_report u fine state h)) (inl (h, refl, here)),
              r.answers v (ap (λ (held : List ℕ). map verdict (ask_on held (starts l))) holds.cells_are ∙ rest),
            );
      }

    refused_run : (state : ℕ) (states u l : List ℕ) → takes (plan_body s) state ≡ false → Run states u l → Run (state ∷ states) u l
    unfolding reports table_after visits_of judged_states
    refused_run state states u l h r = record {
      ends = ap (λ (t : List ℕ). cells_in s (table_after s t states)) (refused_table u state h) ∙ r.ends;
      counted = ap (λ (t : List ℕ). stored_count s (table_after s t states)) (refused_table u state h) ∙ r.counted;
      past = λ i m. ap (λ (t : List ℕ). byte_at (table_after s t states) i) (refused_table u state h) ∙ r.past i m;
      kept = ap (λ (t : List ℕ). length (table_after s t states)) (refused_table u state h) ∙ r.kept;
      sum =
          ap₂ ◌+◌ (ap (λ (q : QueryReport). q.visits) (refused u state h)) (ap (λ (t : List ℕ). visits_of (reports s t states)) (refused_table u state h))
          ∙ (omega (arith, r.sum));
      judged =
          ap (λ (q : QueryReport). judged_states (state ∷ states) (q ∷ reports s (table_queried s state u) states)) (refused u state h)
          ∙ skip (ltb state states_of) (judged_states states (reports s (table_queried s state u) states))
          ∙ ap (λ (t : List ℕ). judged_states states (reports s t states)) (refused_table u state h) ∙ r.judged;
      answers = λ v e. (
        subst (Answer (plan_body s) v state) (sym (refused u state h)) (inr (h, refl, refl)),
        subst (λ (t : List ℕ). Reported (Answer (plan_body s) v) states (reports s t states)) (sym (refused_table u state h)) (r.answers v e),
      );
    }
      where
        skip : (b : Bool) (k : List ℕ) → pick (eqb (pick b 12 11) 0) (state ∷ k) k ≡ k
        skip true k = refl
        skip false k = refl

    pub run : (states u : List ℕ) → Fine u → Run states u (taken_states states)
    unfolding reports table_after visits_of queries total final judged_states taken_states
    run [] u fine = record { ends = refl; counted = omega arith; past = λ i h. refl; kept = refl; sum = refl; judged = refl; answers = λ v e. tt }
    run (state ∷ states) u fine = go (takes (plan_body s) state) refl (run states)
      where
        go : (b : Bool) → takes (plan_body s) state ≡ b → ((u : List ℕ) → Fine u → Run states u (taken_states states))
            → Run (state ∷ states) u (pick b (state ∷ taken_states states) (taken_states states))
        go true e rest = judged_run u fine state e states (taken_states states) (rest (table_queried s state u) (fine_after u fine state e))
        go false e rest = refused_run state states u (taken_states states) e (rest u fine)

  -- each state that is taken is one
  pub taken_each : (states : List ℕ) → Each Takes (taken_states states)
  unfolding taken_states
  taken_each [] = tt
  taken_each (state ∷ states) = go (takes (plan_body s) state) refl (taken_each states)
    where
      go : (b : Bool) → takes (plan_body s) state ≡ b → Each Takes (taken_states states) → Each Takes (pick b (state ∷ taken_states states) (taken_states states))
      go true e rest = (e, rest)
      go false e rest = rest
