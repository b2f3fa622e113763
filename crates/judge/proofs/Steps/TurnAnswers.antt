-- What the code of queries in turn shows: each answer is the one that the checks give.
use Rattle.std.proofs.Common.{Ok, Err, Result, ◌≡◌, ℕ, ◌+◌, ◌<◌, ◌≤◌, Bool, true, false, ltb, ◌≢◌, List, ◌++◌, length, take, drop, ap, ◌∙◌, ap₂, arith, ltb-true, lt-ltb, ne_eqb, eqb-true, le-leb}
use mathlib.Core.List.{Memᴰ}
use borrow.Author.Tests.{lt-leb}
use Rattle.sheet.specs.Contents.{plan_body}
use Rattle.sheet.specs.Plan.{state_count}
use Rattle.sheet.specs.Reading.{sheet_check}
use Rattle.sheet.specs.declared.Refusal.{Refusal}
use Rattle.sheet.specs.declared.Refusal.TheVariants.{NoSuchState, Loop, TableShort, TableByte}
use Rattle.sheet.proofs.Checks.Bools.{differ, fails}
use Rattle.rows.specs.Rows.{conjunction}
use Rattle.rows.specs.Tables.{byte_at, filled, Result as CellResult, visits, table}
use Rattle.rows.proofs.Tables.Counting.{count_le}
use Rattle.rows.proofs.Tables.Filling.{fill_length}
use Rattle.rows.proofs.Solver.Walks.{along, walked}
use Rattle.graph.specs.Explored.{StartsFrom}
use Rattle.graph.specs.LoopTest.{all_pass, loop_free}
use Rattle.graph.proofs.Looptest.Settled.{all_member, all_members}
use Rattle.judge.specs.declared.index.Index.{Index}
use Rattle.judge.specs.Cells.{cell_bytes, table_bytes, cells_in, count_bytes}
use Rattle.judge.specs.StoredCount.{in_four_bytes, stored_count, filled_cells, table_with}
use Rattle.judge.specs.Querying.{bytes_right, count_right}
use Rattle.judge.specs.InTurn.{root_cells, in_turn_check, result_in_turn, passed_before, in_turn_of, table_in_turn, reported_in_turn, QueriesInTurn}
use Rattle.judge.specs.InTurn.{InTurn}
use Rattle.judge.specs.declared.QueryError.TheVariants.{WrongCount, Refused}
use Rattle.judge.specs.Internal.Preparing.{RuleTold, StatesAsked, StatesTold, looped, told}
use Rattle.judge.specs.Internal.Turns.{StatesMarked, missing, marked, EachPrepared, holds_on, walk_in_turn, WalkRequires, WalkedInTurn}
use Rattle.judge.proofs.Cells.CountLayout.{cells_length}
use Rattle.judge.proofs.Lists.FilledTables.{solved}
use Rattle.judge.proofs.Steps.DecideSteps.{size_small}
use Rattle.judge.proofs.Steps.QueryAnswers.{counted_after}
use Rattle.judge.proofs.Steps.RightCount.{Taken, TurnedDown, short, over, miscounted}
use Rattle.judge.specs.declared.QueryError.{QueryError}
use Rattle.judge.proofs.Steps.TurnSteps.{walk_is}

module _ (s states t : List ℕ) where
  answers : (r : InTurn) (now : List ℕ) → r ≡ in_turn_of s states t → now ≡ table_in_turn s states t → QueriesInTurn s states t r now
  answers r now e f = (e, (ap reported_in_turn e, f))

  by_check : (x : Refusal) → in_turn_check s states t ≡ Err x → QueriesInTurn s states t (Err (Refused x)) t
  unfolding in_turn_of table_in_turn
  by_check x e = answers (Err (Refused x)) t (rw e) (rw e)

  by_count : in_turn_check s states t ≡ Ok tt → count_right s t ≡ false → QueriesInTurn s states t (Err WrongCount) t
  unfolding in_turn_of table_in_turn
  by_count e f = answers (Err WrongCount) t (rw (e, f)) (rw (e, f))

  pub in_turn_unread : (x : Refusal) → sheet_check s ≡ Err x → QueriesInTurn s states t (Err (Refused x)) t
  unfolding in_turn_check
  in_turn_unread x e = by_check x (rw e)

  module _ (e : sheet_check s ≡ Ok tt) where
    abbrev below : ℕ → Bool
    below state = ltb state (state_count (plan_body s))

    pub in_turn_no_state : (u : ℕ) → Memᴰ u states → state_count (plan_body s) ≤ u → QueriesInTurn s states t (Err (Refused NoSuchState)) t
    unfolding in_turn_check
    in_turn_no_state u m h =
        by_check NoSuchState
        (rw (e, fails (all_pass below states) (λ q. absurd (omega (arith, ltb-true u (state_count (plan_body s)) (all_member below states u q m))))))

    module _ (all : (u : ℕ) → Memᴰ u states → u < state_count (plan_body s)) where
      pub all_below_lem : all_pass below states ≡ true
      all_below_lem = all_members below states (λ u m. lt-ltb u (state_count (plan_body s)) (all u m))

      pub in_turn_loop : (u : ℕ) → Memᴰ u states → loop_free (plan_body s) u ≡ false → QueriesInTurn s states t (Err (Refused Loop)) t
      unfolding in_turn_check
      in_turn_loop u m h =
          by_check Loop
          (rw (e, all_below_lem, fails (all_pass (loop_free (plan_body s)) states) (λ q. differ _ (all_member (loop_free (plan_body s)) states u q m) h)))

-- ---- the states of the list

module _ (s : List ℕ) {states : List ℕ} (accepted : sheet_check s ≡ Ok tt) {count : ℕ} (is : count ≡ state_count (plan_body s))
    {r : Result (List ℕ) Refusal} (m : StatesMarked states count r) where
  pub one_missing : {x : Refusal} → r ≡ Err x → (t : List ℕ) → QueriesInTurn s states t (Err (Refused x)) t
  one_missing {x} e t = go m
    where
      go : StatesMarked states count r → QueriesInTurn s states t (Err (Refused x)) t
      go (missing f u h l) = let same : x ≡ NoSuchState = cc in rw same (in_turn_no_state s states t accepted u h (omega arith))
      go (marked starts f _ _) = absurd (cc)

  module _ {starts : List ℕ} (e : r ≡ Ok starts) where
    listed : (u : ℕ) → Memᴰ u states → (u < state_count (plan_body s)) × StartsFrom starts u
    listed = go m
      where
        go : StatesMarked states count r → (u : ℕ) → Memᴰ u states → (u < state_count (plan_body s)) × StartsFrom starts u
        go (missing f _ _ _) = absurd (cc)
        go (marked named f all _) = λ u h. let a = all u h in let same : starts ≡ named = cc in (omega (arith, a.0), rw same a.1)

    named : (u : ℕ) → StartsFrom starts u → Memᴰ u states
    named = go m
      where
        go : StatesMarked states count r → (u : ℕ) → StartsFrom starts u → Memᴰ u states
        go (missing f _ _ _) = absurd (cc)
        go (marked named f _ back) = let same : starts ≡ named = cc in rw same back

    pub list_asked : {index : Index} → RuleTold s index → StatesAsked s index starts
    list_asked r = record { accepted = accepted; rule_told = r; starts_below = λ u h. (listed u (named u h)).0 }

    pub list_looped : {index : Index} {free : Bool} → free ≡ false → StatesTold s starts index free → (t : List ℕ)
        → QueriesInTurn s states t (Err (Refused Loop)) t
    list_looped f (looped _ u h l) t = in_turn_loop s states t accepted (λ v m. (listed v m).0) u (named u h) l
    list_looped f (told g _ _) t = absurd (differ _ g f)

    pub list_free : {index : Index} {free : Bool} → free ≡ true → StatesTold s starts index free → EachPrepared s index states
    list_free f (looped g _ _ _) = absurd (differ _ f g)
    list_free f (told _ rule each) = record {
      accepted = accepted;
      rule_told = rule;
      each = λ u m.
          let a = listed u m in
          record { accepted = accepted; state_below = a.0; loop_free_holds = (each u a.1).0; prepared = (each u a.1).1 };
    }

-- ---- with no state refused

-- of an accepted sheet, all states of the list are there, and no loop can be reached from any
pub record StatesTaken (s states : List ℕ) : Type 0 where
  pub accepted : sheet_check s ≡ Ok tt
  pub there : (u : ℕ) → Memᴰ u states → u < state_count (plan_body s)
  pub free : (u : ℕ) → Memᴰ u states → loop_free (plan_body s) u ≡ true

pub states_taken : {s : List ℕ} {index : Index} {states : List ℕ} → EachPrepared s index states → StatesTaken s states
states_taken p = record { accepted = p.accepted; there = λ u m. (p.each u m).state_below; free = λ u m. (p.each u m).loop_free_holds }

module _ {s states : List ℕ} (p : StatesTaken s states) (t : List ℕ) where
  states_below_lem : all_pass (below s states t p.accepted) states ≡ true
  states_below_lem = all_below_lem s states t p.accepted p.there

  states_free : all_pass (loop_free (plan_body s)) states ≡ true
  states_free = all_members (loop_free (plan_body s)) states p.free

  pub in_turn_short : length t < table_bytes s → QueriesInTurn s states t (Err (Refused TableShort)) t
  unfolding in_turn_check
  in_turn_short l = by_check s states t TableShort (rw (p.accepted, states_below_lem, states_free, lt-leb (table_bytes s) (length t) l))

  module _ (l : table_bytes s ≤ length t) where
    pub in_turn_bad_byte : bytes_right (cell_bytes s) t ≡ false → QueriesInTurn s states t (Err (Refused TableByte)) t
    unfolding in_turn_check
    in_turn_bad_byte g = by_check s states t TableByte (rw (p.accepted, states_below_lem, states_free, le-leb (table_bytes s) (length t) l, g))

    pub passes : bytes_right (cell_bytes s) t ≡ true → in_turn_check s states t ≡ Ok tt
    unfolding in_turn_check
    passes g = rw (p.accepted, states_below_lem, states_free, le-leb (table_bytes s) (length t) l, g)

    pub in_turn_miscounted : bytes_right (cell_bytes s) t ≡ true → stored_count s t ≢ filled_cells s t → QueriesInTurn s states t (Err WrongCount) t
    unfolding count_right
    in_turn_miscounted g f = by_count s states t (passes g) (ne_eqb (stored_count s t) (filled_cells s t) f)

  pub in_turn_turned_down : {x : QueryError} → TurnedDown s t x → QueriesInTurn s states t (Err x) t
  in_turn_turned_down {x} (short e l) = rw e (in_turn_short l)
  in_turn_turned_down {x} (over e l g) = rw e (in_turn_bad_byte l g)
  in_turn_turned_down {x} (miscounted e l g f) = rw e (by_count s states t (passes l g) f)

-- on a table that is taken
module _ {s : List ℕ} {index : Index} {states t : List ℕ} {cells stored : ℕ} (p : EachPrepared s index states) (q : Taken s t cells stored) where
  abbrev held : List ℕ
  held = take cells t

  held_cells : held ≡ cells_in s t
  held_cells = ap (λ (k : ℕ). take k t) q.cells_are

  room : cell_bytes s ≤ length held
  room = omega (arith, ap length held_cells, cells_length s t q.long)

  pub walk_asked : WalkRequires s index states held
  walk_asked = record { prepared = p; room = room }

  module _ {k n : ℕ} {left : List ℕ} (w : WalkedInTurn s states held k n left) where
    -- the count stays small
    pub turns_fit : stored + n < 4294967296
    unfolding count_right
    turns_fit =
        let counted = eqb-true (stored_count s t) (filled_cells s t) q.count_right_holds in
        let few = count_le (cell_bytes s) (λ i. filled (byte_at t i)) in
        omega (arith, q.stored_is, counted, few, size_small s p.accepted, w.few)

    -- the cells that the walk leaves, and then the count after them
    pub in_turn_judged : (u : List ℕ) → u ≡ take cells (left ++ drop cells t) ++ (in_four_bytes (stored + n) ++ drop (cells + count_bytes) (left ++ drop cells t))
        → QueriesInTurn s states t (Ok (record { passed = k; visits = n })) u
    unfolding in_turn_of table_in_turn
    in_turn_judged u f =
        let right = solved s p.accepted in
        let whole : walk_in_turn s states held ≡ result_in_turn s states t =
        walk_is p held room ∙ ap (λ (cells : List ℕ). walked_on cells) held_cells in
        let same : length left ≡ length held =
        ap length (w.left_is ∙ ap table (walk_is p held room)) ∙ fill_length right held (along right held conjunction (root_cells states)) in
        let checked = passes (states_taken p) t q.long q.bytes_right_holds in
        answers s states t (Ok (record { passed = k; visits = n })) u
        (rw (checked, q.count_right_holds)
        (ap₂ (λ (k n : ℕ). Ok (record { passed = k; visits = n })) (w.passed_is ∙ ap (λ (cells : List ℕ). passed_before (holds_on s cells) states) held_cells) (w.visits_are ∙ ap visits whole)))
        (rw (checked, q.count_right_holds) (counted_after s t q.long q.cells_are left u (stored + n) same f
        ∙ ap₂ (λ (l : List ℕ) (m : ℕ). table_with s l m t) (w.left_is ∙ ap table whole) (ap₂ ◌+◌ q.stored_is (w.visits_are ∙ ap visits whole))))
      where
        walked_on : List ℕ → CellResult
        walked_on cells = walked (solved s p.accepted) cells conjunction (root_cells states)
