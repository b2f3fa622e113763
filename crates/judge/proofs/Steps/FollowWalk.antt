-- What the loop over the transitions of a state shows: the walk so far and the walk that is left.
use Rattle.std.proofs.Common.{◌≡◌, ℕ, ◌+◌, ◌-◌, ◌*◌, ◌<◌, ◌≤◌, Bool, true, false, not, eqb, List, [], ◌∷◌, length, sym, refl, ap, ◌∙◌, add_assoc, zero-add, arith}
use mathlib.Core.Bool.{beq}
use Rattle.sheet.specs.Bytes.{pick}
use Rattle.sheet.specs.Contents.{plan_body}
use Rattle.sheet.specs.Plan.{target}
use Rattle.rows.specs.Rows.{disjunction, conjunction}
use Rattle.rows.specs.Tables.{Result, out}
use Rattle.rows.specs.Internal.Solver.{after}
use Rattle.judge.specs.declared.index.Index.{Index}
use Rattle.judge.specs.Cells.{Cell, cell}
use Rattle.graph.specs.Explored.{first_from}
use Rattle.judge.specs.Querying.{result_at}
use Rattle.judge.specs.Internal.Deciding.{FollowRequires, DecideRequires, Decided, walk_at, Followed}
use Rattle.judge.specs.Internal.Packed.{verdict_in, visits_in, Added}
use Rattle.rows.proofs.Solver.Solver.{walk_decided, walk_on}
use Rattle.rows.proofs.Solver.QueryByRow.{walk_none}
use Rattle.rows.proofs.Solver.Walks.{out_path}
use Rattle.judge.proofs.Cells.CellRows.{row, or_if, or_decides}
use Rattle.judge.proofs.Steps.DecideSteps.{rank_at, kind_at, y_at, walk_along}
use Rattle.judge.proofs.Steps.Turns.{walk_rank, cells_from, meets_at, TurnAt, turns_start, cells_start, turns_next, child, child_below, cells_met, cells_unmet, cells_end}

pub after_after : (m n : ℕ) (r : Result) → after m (after n r) ≡ after (m + n) r
after_after m n (out v k t) = ap (λ (x : ℕ). out v x t) (sym (add_assoc m n k))

pub after_none : (r : Result) → r ≡ after 0 r
after_none (out v k t) = ap (λ (x : ℕ). out v x t) (sym (zero-add k))

-- the walk along some cells of the row of a "some" or an "every"
abbrev walk_over : List ℕ → ℕ → List Cell → List ℕ → Result
walk_over s n l u = walk_along s (row (or_if (eqb (kind_at s n) 4)) l) u

-- The loop over the transitions from first to end has come to i, with the table u: sum has the visits so far, and what is left is the walk
-- from i on.
pub record WalkedTo (s t : List ℕ) (n st first end i sum : ℕ) (u : List ℕ) : Type 0 where
  pub turn : TurnAt s st first end i
  pub left : walk_at s n st t ≡ after (visits_in sum) (walk_over s n (cells_from s n st i) u)
  pub small : sum ≤ 131072 * (i - first)
  pub long : length u ≡ length t

pub sum_small : {s t : List ℕ} {n st first end i sum : ℕ} {u : List ℕ} → WalkedTo s t n st first end i sum u → sum < 1000000000
sum_small w = omega (arith, w.small, w.turn.few, w.turn.within)

module _ {s : List ℕ} {index : Index} {t : List ℕ} {n st : ℕ} (f : FollowRequires s index t n st) where
  pub walk_start : {first end : ℕ} → first ≡ first_from (plan_body s) st → end ≡ first_from (plan_body s) (st + 1)
      → WalkedTo s t n st first end first 0 t
  walk_start {first} e g = record {
    turn = turns_start f e g;
    left = ap (λ (l : List Cell). walk_over s n l t) (cells_start f e) ∙ after_none (walk_over s n (cells_from s n st first) t);
    small = omega arith;
    long = refl;
  }

  module _ {first end i sum : ℕ} {u : List ℕ} (w : WalkedTo s t n st first end i sum u) where
    module _ (more : i < end) where
      abbrev child_cell : Cell
      child_cell = child f w.turn more

      -- the next turn
      next : {r : ℕ} {x : List ℕ} → walk_at s n st t ≡ after (visits_in r) (walk_over s n (cells_from s n st (i + 1)) x)
          → r ≤ sum + 131072 → length x ≡ length u → WalkedTo s t n st first end (i + 1) r x
      next e h l = record {
        turn = turns_next f w.turn more;
        left = e;
        small = omega (arith, w.small, w.turn.reached);
        long = l ∙ w.long;
      }

      module _ {Y T : ℕ} (e : Y ≡ y_at s n) (g : T ≡ target (plan_body s) i) where
        -- the call on the cell that transition i leads to
        pub call_child : (2 * rank_at s (cell 0 Y T) < walk_rank s st) × DecideRequires s index u (cell 0 Y T)
        call_child = child_below f w.turn more (omega (arith, w.long, f.room)) e g

        -- where the transition's action meets the formula, and its cell is decided
        module _ (yes-met : meets_at s n i ≡ true) {v : ℕ} {x : List ℕ} (d : Decided s (cell 0 Y T) u v x) where
          given : result_at s child_cell u ≡ out (verdict_in v) (visits_in v) x
          given = sym (d.result ∙ (ap (λ (y : ℕ). result_at s (cell 0 y T) u) e ∙ ap (λ (z : ℕ). result_at s (cell 0 (y_at s n) z) u) g))

          -- what is left is a walk that begins with that cell
          begins : walk_at s n st t ≡ after (visits_in sum) (walk_over s n (child_cell ∷ cells_from s n st (i + 1)) u)
          begins =
              w.left ∙ ap (λ (l : List Cell). after (visits_in sum) (walk_over s n l u)) (cells_met f w.turn more yes-met)

          pub turn_decided : beq (verdict_in v) (eqb (kind_at s n) 4) ≡ true → {r : ℕ} → Added sum v r → Followed s n st t r x
          turn_decided q j = record {
            result =
                out_path j.verdict_is j.visits_are refl ∙
                sym (begins ∙ ap (after (visits_in sum))
                (walk_decided (λ b y. result_at s b y) (or_if (eqb (kind_at s n) 4)) child_cell (cells_from s n st (i + 1)) u _ _ _ given
                (or_decides (eqb (kind_at s n) 4) (verdict_in v) ∙ q)));
            small = omega (arith, j.small, w.small, w.turn.few, w.turn.within, d.small);
          }

          pub turn_on : beq (verdict_in v) (eqb (kind_at s n) 4) ≡ false → {r : ℕ} → Added sum v r → length x ≡ length u
              → WalkedTo s t n st first end (i + 1) r x
          turn_on q j l =
              next
              (begins ∙ (ap (after (visits_in sum))
              (walk_on (λ b y. result_at s b y) (or_if (eqb (kind_at s n) 4)) child_cell (cells_from s n st (i + 1)) u _ _ _ given
              (or_decides (eqb (kind_at s n) 4) (verdict_in v) ∙ q)) ∙
              (after_after (visits_in sum) (visits_in v) (walk_over s n (cells_from s n st (i + 1)) x) ∙
              ap (λ (k : ℕ). after k (walk_over s n (cells_from s n st (i + 1)) x)) (sym j.visits_are))))
              (omega (arith, j.small, d.small)) l

      pub turn_past : meets_at s n i ≡ false → WalkedTo s t n st first end (i + 1) sum u
      turn_past q =
          next
          (w.left ∙ ap (λ (l : List Cell). after (visits_in sum) (walk_over s n l u)) (cells_unmet f w.turn more q))
          (omega arith) refl

    pub walk_finish : end ≤ i → {or : Bool} → or ≡ eqb (kind_at s n) 4 → {v r : ℕ} → (v ≡ pick (not or) 1 0) × (v ≤ 1) → Added sum v r
        → Followed s n st t r u
    walk_finish past o e j = record {
      result =
          out_path j.verdict_is j.visits_are refl ∙
          (ap (λ (y : ℕ). out (verdict_in y) (visits_in sum + visits_in y) u) (e.0 ∙ ap (λ (b : Bool). pick (not b) 1 0) o) ∙
          (go (eqb (kind_at s n) 4) ∙
          sym (w.left ∙ ap (λ (l : List Cell). after (visits_in sum) (walk_over s n l u)) (cells_end f w.turn past))));
      small = omega (arith, j.small, w.small, w.turn.few, w.turn.within, e.1);
    }
      where
        go : (b : Bool) → out (verdict_in (pick (not b) 1 0)) (visits_in sum + visits_in (pick (not b) 1 0)) u
            ≡ after (visits_in sum) (walk_along s (row (or_if b) []) u)
        go true = ap (after (visits_in sum)) (sym (walk_none (λ c y. result_at s c y) disjunction u))
        go false = ap (after (visits_in sum)) (sym (walk_none (λ c y. result_at s c y) conjunction u))
