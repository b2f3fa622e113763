-- What the code of a query shows: each answer is the one that the checks give.
use Rattle.std.proofs.Common.{◌≡◌, ℕ, ◌+◌, ◌<◌, ◌≤◌, Bool, true, false, List, ◌++◌, length, take, drop, sym, ap, ◌∙◌, ap₂, arith, length-take-le, drop-drop, le-ltb, lt-ltb, eqb-true, le-leb}
use lib.Seq.{take-append_seam, drop-append-add}
use borrow.Author.Tests.{lt-leb}
use Rattle.sheet.proofs.Acceptance.Parts.{rule_kept}
use Rattle.sheet.specs.Contents.{plan_body, rule_body}
use Rattle.sheet.specs.Plan.{state_count}
use Rattle.sheet.specs.Reading.{sheet_check}
use Rattle.sheet.specs.declared.Refusal.{Refusal}
use Rattle.sheet.specs.declared.Refusal.TheVariants.{NoSuchState, Loop, TableShort, TableByte}
use Rattle.std.specs.Prelude.{Err, Ok}
use Rattle.rows.specs.Tables.{byte_at, filled, Result, out, verdict, visits, table}
use Rattle.judge.specs.declared.index.Index.{Index}
use Rattle.judge.specs.Cells.{cell, written_rows, enough, position_of, cell_at, cell_bytes, table_bytes, cells_in, count_bytes}
use Rattle.judge.specs.StoredCount.{in_four_bytes, stored_count, filled_cells, table_with}
use Rattle.graph.specs.LoopTest.{loop_free}
use Rattle.judge.specs.Querying.{bytes_right, query_check, count_right, result_at, result_of, queried_of, table_queried, reported_query, Queries}
use Rattle.judge.specs.Internal.Deciding.{DecideRequires, Decided}
use Rattle.judge.specs.Internal.Packed.{verdict_in, visits_in}
use Rattle.judge.specs.Internal.Index.{QueryRequires}
use Rattle.std.specs.Prelude.{Ok, Err}
use Rattle.judge.specs.Querying.{Queried}
use Rattle.judge.specs.declared.QueryError.TheVariants.{WrongCount, Refused}
use Rattle.judge.specs.declared.QueryError.{QueryError}
use Rattle.rows.proofs.Tables.Counting.{count_le}
use Rattle.rows.proofs.Lists.Lists.{query_length}
use Rattle.judge.proofs.Steps.RightCount.{Taken, TurnedDown, short, over, miscounted}
use Rattle.judge.proofs.Steps.DecideSteps.{size_small}
use Rattle.judge.proofs.Cells.CountLayout.{cells_length}

module _ (s : List ℕ) (state : ℕ) (t : List ℕ) where
  -- the clauses of the contract
  abbrev Answers : Queried → List ℕ → Type 0
  Answers = Queries s state t

  answers : (r : Queried) (now : List ℕ) → r ≡ queried_of s state t → now ≡ table_queried s state t → Answers r now
  answers r now e f = (e, (ap reported_query e, f))

  by_check : (x : Refusal) → query_check s state t ≡ Err x → Answers (Err (Refused x)) t
  unfolding queried_of table_queried
  by_check x e = answers (Err (Refused x)) t (rw e) (rw e)

  by_count : query_check s state t ≡ Ok tt → count_right s t ≡ false → Answers (Err WrongCount) t
  unfolding queried_of table_queried
  by_count e f = answers (Err WrongCount) t (rw (e, f)) (rw (e, f))

  pub answers_refused : (x : Refusal) → sheet_check s ≡ Err x → Answers (Err (Refused x)) t
  unfolding query_check
  answers_refused x e = by_check x (rw e)

  module _ (e : sheet_check s ≡ Ok tt) where
    pub answers_no_state : state_count (plan_body s) ≤ state → Answers (Err (Refused NoSuchState)) t
    unfolding query_check
    answers_no_state h = by_check NoSuchState (rw (e, le-ltb state (state_count (plan_body s)) h))

    module _ (h : state < state_count (plan_body s)) where
      pub answers_loop : loop_free (plan_body s) state ≡ false → Answers (Err (Refused Loop)) t
      unfolding query_check
      answers_loop f = by_check Loop (rw (e, lt-ltb state (state_count (plan_body s)) h, f))

-- of a table that is long enough
module _ (s t : List ℕ) (l : table_bytes s ≤ length t) where
  -- cells put in place of the table's, and then a count after them
  pub counted_after : {cells : ℕ} → cells ≡ cell_bytes s → (left u : List ℕ) (n : ℕ) → length left ≡ length (take cells t)
      → u ≡ take cells (left ++ drop cells t) ++ (in_four_bytes n ++ drop (cells + count_bytes) (left ++ drop cells t)) → u ≡ table_with s left n t
  counted_after {cells} is left u n same f =
      let size : length left ≡ cells = same ∙ length-take-le cells t (omega arith) in
      let front : take cells (left ++ drop cells t) ≡ left = ap (λ (k : ℕ). take k (left ++ drop cells t)) (sym size) ∙ take-append_seam left (drop cells t) in
      let back : drop (cells + count_bytes) (left ++ drop cells t) ≡ drop (cells + count_bytes) t =
      ap (λ (k : ℕ). drop (k + count_bytes) (left ++ drop cells t)) (sym size) ∙ drop-append-add left (drop cells t) count_bytes ∙ drop-drop count_bytes cells t in
      f ∙ ap₂ (λ (a b : List ℕ). a ++ (in_four_bytes n ++ b)) front back ∙ ap (λ (c : ℕ). left ++ (in_four_bytes n ++ drop (c + count_bytes) t)) is

-- with all prepared
module _ {s : List ℕ} {index : Index} {state : ℕ} (q : QueryRequires s index state) (t : List ℕ) where
  answers_short : length t < table_bytes s → Queries s state t (Err (Refused TableShort)) t
  unfolding query_check
  answers_short l =
      by_check s state t TableShort (rw (q.accepted, lt-ltb state (state_count (plan_body s)) q.state_below, q.loop_free_holds, lt-leb (table_bytes s) (length t) l))

  module _ (l : table_bytes s ≤ length t) where
    answers_bad_byte : bytes_right (cell_bytes s) t ≡ false → Queries s state t (Err (Refused TableByte)) t
    unfolding query_check
    answers_bad_byte g =
        by_check s state t TableByte
        (rw (q.accepted, lt-ltb state (state_count (plan_body s)) q.state_below, q.loop_free_holds, le-leb (table_bytes s) (length t) l, g))

    passes : bytes_right (cell_bytes s) t ≡ true → query_check s state t ≡ Ok tt
    unfolding query_check
    passes g = rw (q.accepted, lt-ltb state (state_count (plan_body s)) q.state_below, q.loop_free_holds, le-leb (table_bytes s) (length t) l, g)

  pub answers_turned_down : {x : QueryError} → TurnedDown s t x → Queries s state t (Err x) t
  answers_turned_down {x} (short e l) = rw e (answers_short l)
  answers_turned_down {x} (over e l g) = rw e (answers_bad_byte l g)
  answers_turned_down {x} (miscounted e l g f) = rw e (by_count s state t (passes l g) f)

-- on a table that is taken
module _ {s : List ℕ} {index : Index} {state : ℕ} {t : List ℕ} {cells stored : ℕ} (q : QueryRequires s index state) (k : Taken s t cells stored) where
  abbrev held : List ℕ
  held = take cells t

  pub held_cells : held ≡ cells_in s t
  held_cells = ap (λ (k : ℕ). take k t) k.cells_are

  pub root_decidable : DecideRequires s index held (cell 0 0 state)
  root_decidable = record {
    accepted = q.accepted;
    prepared = q.prepared;
    room = omega (arith, ap length held_cells, cells_length s t k.long);
    node_below = (rule_kept s q.accepted).some_nodes;
    state_below = q.state_below;
    state_settled = q.loop_free_holds;
    mark_right = tt;
  }

  -- the count stays small
  pub count_fits : (w n : ℕ) (left : List ℕ) → Decided s (cell 0 0 state) held w left → n ≡ visits_in w → stored + n < 4294967296
  unfolding count_right
  count_fits w n left d e =
      let counted = eqb-true (stored_count s t) (filled_cells s t) k.count_right_holds in
      let few = count_le (cell_bytes s) (λ i. filled (byte_at t i)) in
      omega (arith, k.stored_is, counted, few, size_small s q.accepted, d.small)

  -- the cells that were decided, and then the count after them
  pub answers_judged : (w : ℕ) (v : Bool) (n : ℕ) (left u : List ℕ)
      → Decided s (cell 0 0 state) held w left → v ≡ verdict_in w → n ≡ visits_in w
      → u ≡ take cells (left ++ drop cells t) ++ (in_four_bytes (stored + n) ++ drop (cells + count_bytes) (left ++ drop cells t)) → Queries s state t (Ok (record { verdict = v; visits = n })) u
  unfolding queried_of table_queried
  answers_judged w v n left u d p e f =
      let same : length left ≡ length held =
      ap (λ (x : Result). length (table x)) d.result
      ∙ query_length (position_of (rule_body s)) (cell_bytes s) (cell_at (rule_body s)) (written_rows s) enough held (cell 0 0 state) in
      let r : out v n left ≡ result_of s state t = (λ i. out (p i) (e i) left) ∙ d.result ∙ ap (result_at s (cell 0 0 state)) held_cells in
      let checked = passes q t k.long k.bytes_right_holds in
      answers s state t (Ok (record { verdict = v; visits = n })) u
      (rw (checked, k.count_right_holds) (ap (λ (x : Result). Ok (record { verdict = verdict x; visits = visits x })) r))
      (rw (checked, k.count_right_holds) (counted_after s t k.long k.cells_are left u (stored + n) same f ∙ ap (λ (k : ℕ). table_with s left (k + n) t) k.stored_is
      ∙ ap (λ (x : Result). table_with s (table x) (stored_count s t + visits x) t) r))
