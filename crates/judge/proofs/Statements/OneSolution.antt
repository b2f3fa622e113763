-- Where no loop can be reached from a state, the rows of the cells that its cells can come to have one solution, as written and as a table changes them: no
-- chain of them returns.
use Rattle.std.proofs.Common.{◌≡◌, ℕ, ◌<◌, List, sym, subst, inl, inr, arith}
use mathlib.Core.List.{Memᴰ}
use Rattle.sheet.specs.Contents.{plan_body, actions_body, rule_body}
use Rattle.sheet.specs.Reading.{sheet_check}
use Rattle.std.specs.Prelude.{Ok}
use Rattle.rows.specs.Rows.{Row, value}
use Rattle.graph.specs.Loops.{Way, last, first}
use Rattle.judge.specs.Cells.{Cell, cell, enough, position_of, written_rows, cells_in}
use Rattle.judge.specs.OneSolution.{changed_rows, LoopFreeCell, ComesTo, OneSolution, RowsHaveOneSolution}
use Rattle.graph.proofs.Looptest.Settled.{way_on}
use Rattle.rows.proofs.Systems.Members.{each_at, all_each}
use Rattle.rows.proofs.Systems.Systems.{Falling}
use Rattle.rows.proofs.Systems.Fuel.{value_row, value_unique}
use Rattle.rows.proofs.Systems.Changed.{changed_falling}
use Rattle.judge.proofs.Cells.ValidCells.{Valid, root_valid}
use Rattle.judge.proofs.Cells.Ranks.{rank, rank_enough, falling}
use Rattle.graph.proofs.Looptest.LoopFree.{free_exactly_at}
use Rattle.judge.proofs.Steps.DecideSteps.{counted, uncounted}
use Rattle.sheet.proofs.Acceptance.Parts.{bodies_kept}

-- along a chain of rows the rank falls
module _ {C : Type 0} (rows : C → Row C) {Counts : C → Type 0} {rank : C → ℕ} (fall : Falling rows Counts rank) where
  abbrev Below : C → C → Type 0
  Below c d = Counts d × (rank d < rank c)

  pub way_falls : {c d : C} → Counts c → Way (λ e. (rows e).entries) c d → Below c d
  way_falls {c} {d} v (last m) = each_at (Below c) (rows c).entries (fall.falls c v) d m
  way_falls {c} v (first {u = e} m w) =
      let h = each_at (Below c) (rows c).entries (fall.falls c v) e m in
      let g = way_falls h.0 w in
      (g.0, omega (arith, h.1, g.1))

pub comes_on : (R : Cell → Row Cell) (c d e : Cell) → ComesTo R c d → Memᴰ e (R d).entries → ComesTo R c e
comes_on R c d e (inl q) m = inr (last (subst (λ (x : Cell). Memᴰ e (R x).entries) q m))
comes_on R c d e (inr w) m = inr (way_on w m)

module _ (s : List ℕ) (accepted : sheet_check s ≡ Ok tt) where
  -- the cells of settled states
  abbrev pub Settled : Cell → Type 0
  Settled = Valid (plan_body s) (actions_body s) (rule_body s)

  pub free_settled : (c : Cell) → LoopFreeCell s c → Settled c
  free_settled c q = counted s accepted c q.of_sheet ((free_exactly_at (plan_body s) (bodies_kept s accepted).plan_kept c.state q.of_sheet.state_below).1 q.no_loop)

  pub settled_free : (c : Cell) → Settled c → LoopFreeCell s c
  settled_free c v = record { of_sheet = uncounted s accepted c v; no_loop = (free_exactly_at (plan_body s) (bodies_kept s accepted).plan_kept c.state v.state_below).0 v.state_settled }

  abbrev pub Ranked : (Cell → Row Cell) → Type 0
  Ranked R = Falling R Settled (rank (plan_body s) (rule_body s))

  pub written_falls : Ranked (written_rows s)
  written_falls = falling (bodies_kept s accepted)

  pub changed_falls : (t : List ℕ) → Ranked (changed_rows s t)
  changed_falls t = changed_falling (position_of (rule_body s)) (written_rows s) written_falls (cells_in s t)

  -- rows along which the rank falls
  module _ (R : Cell → Row Cell) (falls : Ranked R) where
    pub comes_settled : (c d : Cell) → Settled c → ComesTo R c d → Settled d
    comes_settled c d v (inl e) = subst Settled (sym e) v
    comes_settled c d v (inr w) = (way_falls R falls v w).0

    -- cells of settled states, closed under rows
    module _ (Counts : Cell → Type 0) (settles : (c : Cell) → Counts c → Settled c) (closed : (c d : Cell) → Counts c → Memᴰ d (R c).entries → Counts d) where
      enough_for : (c : Cell) → Counts c → rank (plan_body s) (rule_body s) c < enough
      enough_for c g = rank_enough (bodies_kept s accepted) c (settles c g)

      among : Falling R Counts (rank (plan_body s) (rule_body s))
      among = record {
        falls = λ d g. all_each (λ e. Counts e × (rank (plan_body s) (rule_body s) e < rank (plan_body s) (rule_body s) d)) (R d).entries
            (λ e m. (closed d e g m, (each_at (λ e. Settled e × (rank (plan_body s) (rule_body s) e < rank (plan_body s) (rule_body s) d)) (R d).entries (falls.falls d (settles d g)) e m).1));
      }

      pub solves : OneSolution s R Counts (value R enough)
      solves = record {
        of_sheet = λ c g. settled_free c (settles c g);
        entries_count = closed;
        no_return = λ c g w. absurd (omega (arith, (way_falls R falls (settles c g) w).1));
        solves = record { row = λ c g. value_row R among enough c g (enough_for c g) };
        unique = λ w solution c g. value_unique R among w (λ e h. solution.row e h) enough c g (enough_for c g);
      }

    pub solves_from : (c : Cell) → Settled c → OneSolution s R (ComesTo R c) (value R enough)
    solves_from c v = solves (ComesTo R c) (λ d g. comes_settled c d v g) (λ d e g m. comes_on R c d e g m)

    pub solves_all : OneSolution s R (LoopFreeCell s) (value R enough)
    solves_all = solves (LoopFreeCell s) free_settled
        (λ c d q m. settled_free d (each_at (λ e. Settled e × (rank (plan_body s) (rule_body s) e < rank (plan_body s) (rule_body s) c)) (R c).entries (falls.falls c (free_settled c q)) d m).0)

pub one_solution : RowsHaveOneSolution
one_solution = record {
  queried = λ s accepted state h none. settled_free s accepted (cell 0 0 state) (root_valid (bodies_kept s accepted).rule_kept state h ((free_exactly_at (plan_body s) (bodies_kept s accepted).plan_kept state h).1 none));
  written = λ s accepted c q. (value (written_rows s) enough, solves_from s accepted (written_rows s) (written_falls s accepted) c (free_settled s accepted c q));
  changed = λ s accepted t c q. (value (changed_rows s t) enough, solves_from s accepted (changed_rows s t) (changed_falls s accepted t) c (free_settled s accepted c q));
  all_written = λ s accepted. (value (written_rows s) enough, solves_all s accepted (written_rows s) (written_falls s accepted));
  all_changed = λ s accepted t. (value (changed_rows s t) enough, solves_all s accepted (changed_rows s t) (changed_falls s accepted t));
}
