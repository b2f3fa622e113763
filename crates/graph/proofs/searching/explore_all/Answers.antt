-- `graph::searching::explore_all` meets its contract, by the steps of `sweep`.
use native.Mathlib.Omega.{arith}
use mathlib.Core.Path.{sym, ◌∙◌}
use Rattle.graph.proofs.Search.Colouring.{told_done, told_not_done}
use Rattle.graph.proofs.Search.SweepSteps.{sweep_starts, sweep_ends, skip_past, skip_done, sweep_found, sweep_next}
use Rattle.graph.proofs.searching.explore_all.Goals as goal
use Rattle.graph.proofs.searching.explore_all.Goals.{then-start-eq0-via-then-start-eq0, then-start-eq0-via-else-start-eq0+then-is_done}

pub loop-s-init : goal.loop-s-init
loop-s-init c = sweep_starts _ _ _

pub loop-s-preserved-then-start-eq0 : goal.loop-s-preserved-then-start-eq0
loop-s-preserved-then-start-eq0 c =
    elim c.then-start-eq0.branch [
      | then-start-eq0-via-then-start-eq0 w ↦ skip_past c.loop-s.invariant (omega (arith, c.told-starts)) w.if-start-eq0.true
      | then-start-eq0-via-else-start-eq0+then-is_done w ↦
          skip_done c.loop-s.invariant (omega (arith, c.told-starts)) w.if-start-eq0.false
          (told_done _ (sym w.is_done.ensures ∙ w.if-is_done.true))
    ]

pub visit-requires : goal.visit-requires
visit-requires c = record {
  counted = c.count_held-count.ensures;
  room = c.loop-s.invariant.room;
  not_done = told_not_done _ (sym c.is_done.ensures ∙ c.if-is_done.false);
}

pub loop-s-preserved : goal.loop-s-preserved
loop-s-preserved c =
    sweep_next c.loop-s.invariant (omega (arith, c.told-starts)) c.if-start-eq0.false
    (told_not_done _ (sym c.is_done.ensures ∙ c.if-is_done.false)) c.if-not-visit.ensures

pub returns-then-not-visit : goal.returns-then-not-visit
returns-then-not-visit c =
    let found =
    sweep_found c.loop-s.invariant (omega (arith, c.told-starts)) c.if-start-eq0.false
    (told_not_done _ (sym c.is_done.ensures ∙ c.if-is_done.false)) c.if-not-visit.ensures
    in
    record { value = found.0; index_after = found.1 }

pub returns : goal.returns
returns c =
    let ended = sweep_ends c.loop-s.invariant (omega (arith, c.told-starts)) in
    record { value = ended.0; index_after = ended.1 }
