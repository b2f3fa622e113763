use mathlib.Core.Path.{◌≡◌, sym, ◌∙◌}
use native.Mathlib.Omega.{arith}
use Rattle.sheet.specs.Rule.{binder_node}
use Rattle.sheet.proofs.Checks.Seeking.{seek_start, seek_here, seek_next, seek_end}
use Rattle.sheet.proofs.Steps.Nodes.{counted_none}
use Rattle.sheet.proofs.rule.binder_place.Goals as goal

pub loop-n-init : goal.loop-n-init
unfolding binder_node
loop-n-init c = (counted_none _, seek_start _ _ _ c.narrow_at-count.ensures)

pub returns-then-is_binder_of : goal.returns-then-is_binder_of
returns-then-is_binder_of c = let inv = c.loop-n.invariant in
    seek_here inv.1 (omega arith) (rw (← inv.0.is) (sym c.is_binder_of.ensures ∙ c.if-is_binder_of.true))

pub binders_with-binders-requires : goal.binders_with-binders-requires
binders_with-binders-requires c = c.loop-n.invariant.0

pub loop-n-preserved : goal.loop-n-preserved
loop-n-preserved c = let inv = c.loop-n.invariant in
    (c.binders_with-binders.ensures, seek_next inv.1 (omega arith) (rw (← inv.0.is) (sym c.is_binder_of.ensures ∙ c.if-is_binder_of.false)))

pub returns : goal.returns
returns c = let at_end : c.narrow_at-count.result ≡ c.loop-n.n = omega arith in
    at_end ∙ seek_end c.loop-n.invariant.1 (omega arith)
