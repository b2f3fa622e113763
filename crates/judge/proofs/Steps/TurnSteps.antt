-- What the loops of queries in turn show: the states of the list are marked, and their cells are walked along.
use Rattle.std.proofs.Common.{Ok, Err, replicate, ◌≡◌, ℕ, zero, suc, ◌+◌, ◌<◌, ◌≤◌, Bool, true, false, ◌⊎◌, List, [], ◌∷◌, length, get_or, drop, set, sym, refl, ap, ◌∙◌, subst, inl, inr, ⊎_elim, le_of_suc-le-suc, not-suc-le-zero, add-one, arith, length-set, drop-cons, get_or-set_other, get_or-set_same}
use mathlib.Core.List.Memᴰ
use mathlib.Core.List.{Memᴰ}
use native.Mathlib.Decide.{ℕ_discrete}
use lib.Seq.{drop-length}
use Rattle.sheet.specs.Bytes.{pick}
use Rattle.sheet.proofs.Acceptance.Parts.{rule_kept}
use Rattle.rows.specs.Rows.{conjunction, decides}
use Rattle.rows.specs.Tables.{Result, out, verdict, visits, table}
use Rattle.rows.specs.Internal.Solver.{after}
use Rattle.rows.proofs.Systems.Systems.{Each}
use Rattle.rows.proofs.Tables.Counting.{count_le}
use Rattle.rows.proofs.Tables.Extension.{extension_value}
use Rattle.rows.proofs.Solver.Solver.{walk_decided, walk_on}
use Rattle.rows.proofs.Solver.Walks.{query_answer, Solves, walked, walk_solves}
use Rattle.rows.proofs.Solver.Solved.{Right, query_right}
use Rattle.rows.proofs.Solver.QueryByRow.{walk_none}
use Rattle.sheet.specs.declared.Refusal.TheVariants.{NoSuchState}
use Rattle.graph.specs.Explored.{StartsFrom}
use Rattle.graph.proofs.Search.Colouring.{colourless}
use Rattle.judge.specs.declared.index.Index.{Index}
use Rattle.judge.specs.Cells.{Cell, cell, cell_bytes}
use Rattle.judge.specs.Querying.{result_at}
use Rattle.judge.specs.InTurn.{root_cells, passed_before}
use Rattle.judge.specs.Internal.Deciding.{DecideRequires, Decided}
use Rattle.judge.specs.Internal.Packed.{verdict_in, visits_in}
use Rattle.judge.specs.Internal.Turns.{StatesMarked, missing, marked, EachPrepared, solution_on, holds_on, walk_in_turn, WalkRequires, WalkedInTurn}
use Rattle.judge.proofs.Cells.ValidCells.{root_valid}
use Rattle.judge.proofs.Lists.FilledTables.{solved}
use Rattle.judge.proofs.Steps.DecideSteps.{ValidAt}
use Rattle.judge.proofs.Steps.FollowWalk.{after_after, after_none}

pub member_at : (l : List ℕ) (i : ℕ) → i < length l → Memᴰ (get_or l i 0) l
member_at [] i h = absurd (not-suc-le-zero h)
member_at (x ∷ l) zero h = Memᴰ.head refl
member_at (x ∷ l) (suc i) h = Memᴰ.tail (member_at l i (le_of_suc-le-suc h))

-- of a list, the entry at i and those after it
next_of : (l : List ℕ) (i : ℕ) → i < length l → drop i l ≡ get_or l i 0 ∷ drop (i + 1) l
next_of l i h = rw add-one (drop-cons l i 0 h)

none_left : (l : List ℕ) (i : ℕ) → i ≤ length l → length l ≤ i → drop i l ≡ []
none_left l i h past =
    let e : i ≡ length l = omega arith in
    ap (λ (k : ℕ). drop k l) e ∙ drop-length l

-- ---- marking the states

-- the states of the list before i are below the count, and starts names them
pub record MarkedTo (states : List ℕ) (count i : ℕ) (starts : List ℕ) : Type 0 where
  pub within : i ≤ length states
  pub sized : length starts ≡ 128
  pub named : (u : ℕ) → StartsFrom starts u → Memᴰ u states
  pub others : (u : ℕ) → Memᴰ u states → ((u < count) × StartsFrom starts u) ⊎ Memᴰ u (drop i states)

pub marks_start : (states : List ℕ) {count : ℕ} → MarkedTo states count 0 (replicate 128 0)
marks_start states = record {
  within = omega arith;
  sized = refl;
  named = λ u h. absurd (h (colourless 128 u));
  others = λ u m. inr m;
}

module _ {states : List ℕ} {count i : ℕ} {starts : List ℕ} (w : MarkedTo states count i starts) where
  module _ (more : i < length states) where
    pub marks_missing : count ≤ get_or states i 0 → StatesMarked states count (Err NoSuchState)
    marks_missing h = missing refl (get_or states i 0) (member_at states i more) h

    module _ (few : count ≤ 128) (h : get_or states i 0 < count) {at : ℕ} (e : at ≡ get_or states i 0) where
      set_there : StartsFrom (set starts at 1) at
      set_there z = absurd (omega (arith, get_or-set_same starts at 1 0 (omega (arith, w.sized)), z))

      set_keeps : (u : ℕ) → StartsFrom starts u → StartsFrom (set starts at 1) u
      set_keeps u m =
          elim (ℕ_discrete u at) [
            | yes k ↦ subst (StartsFrom (set starts at 1)) (sym k) set_there
            | no k ↦ λ z. m (sym (get_or-set_other starts at u 1 0 k) ∙ z)
          ]

      pub marks_next : MarkedTo states count (i + 1) (set starts at 1)
      marks_next = record {
        within = omega arith;
        sized = length-set starts at 1 ∙ w.sized;
        named = λ u m.
            elim (ℕ_discrete u at) [
              | yes k ↦ subst (λ (x : ℕ). Memᴰ x states) (sym (k ∙ e)) (member_at states i more)
              | no k ↦ w.named u (λ z. m (get_or-set_other starts at u 1 0 k ∙ z))
            ];
        others = λ u m. ⊎_elim (λ a. inl (a.0, set_keeps u a.1)) (λ r. here u (Memᴰ.cases_cons (subst (Memᴰ u) (next_of states i more) r))) (w.others u m);
      }
        where
          here : (u : ℕ) → (u ≡ get_or states i 0) ⊎ Memᴰ u (drop (i + 1) states)
              → ((u < count) × StartsFrom (set starts at 1) u) ⊎ Memᴰ u (drop (i + 1) states)
          here u (inl q) = inl (omega arith, subst (StartsFrom (set starts at 1)) (e ∙ sym q) set_there)
          here u (inr r) = inr r

  pub marks_end : length states ≤ i → StatesMarked states count (Ok starts)
  marks_end past = marked starts refl (λ u m. ⊎_elim (λ a. a) (λ r. absurd (Memᴰ.not-nil (subst (Memᴰ u) (none_left states i w.within past) r))) (w.others u m)) w.named

-- ---- the walk

-- what holds of the cell of every state of a list
pub each_root : (P : Cell → Type 0) (l : List ℕ) → ((u : ℕ) → Memᴰ u l → P (cell 0 0 u)) → Each P (root_cells l)
each_root P [] h = tt
each_root P (x ∷ l) h = (h x (Memᴰ.head refl), each_root P l (λ u m. h u (Memᴰ.tail m)))

module _ (v : ℕ → Bool) (state : ℕ) (l : List ℕ) where
  passed_on : v state ≡ true → passed_before v (state ∷ l) ≡ 1 + passed_before v l
  unfolding passed_before
  passed_on e = ap (λ (b : Bool). pick b (suc (passed_before v l)) 0) e ∙ omega arith

  passed_none : v state ≡ false → passed_before v (state ∷ l) ≡ 0
  unfolding passed_before
  passed_none e = ap (λ (b : Bool). pick b (suc (passed_before v l)) 0) e

no_state_holds : (v : ℕ → Bool) → passed_before v [] ≡ 0
unfolding passed_before
no_state_holds v = refl

after_visits_lem : (n : ℕ) (r : Result) → visits (after n r) ≡ n + visits r
after_visits_lem n (out v k t) = refl

after_table : (n : ℕ) (r : Result) → table (after n r) ≡ table r
after_table n (out v k t) = refl

module _ {s : List ℕ} {index : Index} {states : List ℕ} (p : EachPrepared s index states) where
  pub root_at : (u : ℕ) → Memᴰ u states → ValidAt s (cell 0 0 u)
  root_at u m = root_valid (rule_kept s p.accepted) u (p.each u m).state_below (p.each u m).loop_free_holds

  -- the walk gives all verdicts joined, and fills what they need
  pub walk_is : (t : List ℕ) → cell_bytes s ≤ length t → walk_in_turn s states t ≡ walked (solved s p.accepted) t conjunction (root_cells states)
  walk_is t room =
      walk_solves (solved s p.accepted) (result_at s) conjunction (root_cells states)
      (each_root (Solves (solved s p.accepted) (result_at s)) states (λ u m. (root_at u m, λ t fits. query_answer (solved s p.accepted) t (cell 0 0 u)))) t room

  pub walk_few : (t : List ℕ) → cell_bytes s ≤ length t → visits (walk_in_turn s states t) ≤ cell_bytes s
  walk_few t room = subst (λ (r : Result). visits r ≤ cell_bytes s) (sym (walk_is t room)) (count_le (cell_bytes s) _)

-- The loop has come to state i, with n visits and the cells u: what is left is the walk from i on, and solutions are as by the first cells.
pub record QueriedTo (s states t : List ℕ) (i n : ℕ) (u : List ℕ) : Type 0 where
  pub within : i ≤ length states
  pub left : walk_in_turn s states t ≡ after n (walk_in_turn s (drop i states) u)
  pub passed : passed_before (holds_on s t) states ≡ i + passed_before (holds_on s t) (drop i states)
  pub long : length u ≡ length t
  pub same : (c : Cell) → ValidAt s c → solution_on s u c ≡ solution_on s t c

module _ {s : List ℕ} {index : Index} {states t : List ℕ} (q : WalkRequires s index states t) where
  pub queried_start : QueriedTo s states t 0 0 t
  queried_start = record {
    within = omega arith;
    left = after_none (walk_in_turn s states t);
    passed = omega arith;
    long = refl;
    same = λ c h. refl;
  }

  module _ {i n : ℕ} {u : List ℕ} (w : QueriedTo s states t i n u) where
    room : cell_bytes s ≤ length u
    room = omega (arith, w.long, q.room)

    module _ (more : i < length states) where
      abbrev state : ℕ
      state = get_or states i 0

      abbrev root : Cell
      root = cell 0 0 state

      valid : ValidAt s root
      valid = root_at q.prepared state (member_at states i more)

      pub state_decidable : DecideRequires s index u root
      state_decidable =
          let r = q.prepared.each state (member_at states i more) in
          record {
            accepted = r.accepted;
            prepared = r.prepared;
            room = room;
            node_below = valid.node_below;
            state_below = r.state_below;
            state_settled = r.loop_free_holds;
            mark_right = tt;
          }

      module _ {v : ℕ} {x : List ℕ} (d : Decided s root u v x) where
        -- the verdict is the solution by the first cells
        verdict_is : verdict_in v ≡ holds_on s t state
        verdict_is = ap verdict (d.result ∙ query_answer (solved s q.prepared.accepted) u root) ∙ w.same root valid

        right : Right (solved s q.prepared.accepted) u x
        right = subst (λ (r : Result). Right (solved s q.prepared.accepted) u (table r)) (sym d.result) (query_right (solved s q.prepared.accepted) u root room valid)

        begins : walk_in_turn s states t ≡ after n (walk_in_turn s (state ∷ drop (i + 1) states) u)
        begins = w.left ∙ ap (λ (l : List ℕ). after n (walk_in_turn s l u)) (next_of states i more)

        passed_here : passed_before (holds_on s t) states ≡ i + passed_before (holds_on s t) (state ∷ drop (i + 1) states)
        passed_here = w.passed ∙ ap (λ (l : List ℕ). i + passed_before (holds_on s t) l) (next_of states i more)

        on : verdict_in v ≡ true → walk_in_turn s states t ≡ after (n + visits_in v) (walk_in_turn s (drop (i + 1) states) x)
        on e =
            begins ∙ (ap (after n) (walk_on (result_at s) conjunction root (root_cells (drop (i + 1) states)) u _ _ _ (sym d.result) (ap (decides conjunction) e))
            ∙ after_after n (visits_in v) (walk_in_turn s (drop (i + 1) states) x))

        stops : verdict_in v ≡ false → walk_in_turn s states t ≡ out (verdict_in v) (n + visits_in v) x
        stops e =
            begins ∙ ap (after n) (walk_decided (result_at s) conjunction root (root_cells (drop (i + 1) states)) u _ _ _ (sym d.result) (ap (decides conjunction) e))

        pub sum_few : n + visits_in v ≤ cell_bytes s
        sum_few = go (verdict_in v) refl
          where
            all : visits (walk_in_turn s states t) ≤ cell_bytes s
            all = walk_few q.prepared t q.room

            go : (b : Bool) → verdict_in v ≡ b → n + visits_in v ≤ cell_bytes s
            go true e = omega (arith, all, ap visits (on e) ∙ after_visits_lem (n + visits_in v) (walk_in_turn s (drop (i + 1) states) x))
            go false e = omega (arith, all, ap visits (stops e))

        pub queried_next : verdict_in v ≡ true → {m : ℕ} → m ≡ n + visits_in v → QueriedTo s states t (i + 1) m x
        queried_next e {m} f = record {
          within = omega arith;
          left = on e ∙ ap (λ (k : ℕ). after k (walk_in_turn s (drop (i + 1) states) x)) (sym f);
          passed = omega (arith, passed_here, passed_on (holds_on s t) state (drop (i + 1) states) (sym verdict_is ∙ e));
          long = right.long ∙ w.long;
          same = λ c h. extension_value (solved s q.prepared.accepted) u x right.extends c h ∙ w.same c h;
        }

        pub queried_stop : verdict_in v ≡ false → {m : ℕ} → m ≡ n + visits_in v → WalkedInTurn s states t i m x
        queried_stop e f = record {
          passed_is = omega (arith, passed_here, passed_none (holds_on s t) state (drop (i + 1) states) (sym verdict_is ∙ e));
          visits_are = f ∙ sym (ap visits (stops e));
          left_is = sym (ap table (stops e));
          few = omega (arith, sum_few);
        }

    pub queried_end : length states ≤ i → WalkedInTurn s states t i n u
    queried_end past = record {
      passed_is = omega (arith, w.passed, ap (passed_before (holds_on s t)) none ∙ no_state_holds (holds_on s t));
      visits_are = omega (arith, ap visits ends);
      left_is = sym (ap table ends);
      few = omega (arith, walk_few q.prepared t q.room, ap visits ends);
    }
      where
        none : drop i states ≡ []
        none = none_left states i w.within past

        ends : walk_in_turn s states t ≡ out true (n + 0) u
        ends = w.left ∙ (ap (λ (l : List ℕ). after n (walk_in_turn s l u)) none ∙ ap (after n) (walk_none (result_at s) conjunction u))
