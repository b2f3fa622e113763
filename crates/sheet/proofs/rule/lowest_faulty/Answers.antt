use mathlib.Core.Path.{◌≡◌, sym, ◌∙◌}
use native.Mathlib.Omega.{arith}
use Rattle.sheet.proofs.Checks.Seeking.{seek_start, seek_here, seek_next, seek_end}
use Rattle.sheet.proofs.Steps.Nodes.{counted_none}
use Rattle.sheet.proofs.rule.lowest_faulty.Goals as goal

pub loop-n-init : goal.loop-n-init
loop-n-init c = (counted_none _, seek_start _ _ _ c.byte_at-count.ensures.0)

pub binding_faulty-requires : goal.binding_faulty-requires
binding_faulty-requires c = c.loop-n.invariant.0.is

pub returns-then-binding_faulty : goal.returns-then-binding_faulty
returns-then-binding_faulty c = (seek_here c.loop-n.invariant.1 (omega arith) (sym c.binding_faulty.ensures ∙ c.if-binding_faulty.true), omega arith)

pub binders_with-binders-requires : goal.binders_with-binders-requires
binders_with-binders-requires c = c.loop-n.invariant.0

pub loop-n-preserved : goal.loop-n-preserved
loop-n-preserved c = let seeking = c.loop-n.invariant.1 in
    (c.binders_with-binders.ensures, seek_next seeking (omega arith) (sym c.binding_faulty.ensures ∙ c.if-binding_faulty.false))

pub returns : goal.returns
returns c = let at_end : c.byte_at-count.result ≡ c.loop-n.n = omega arith in
    (at_end ∙ seek_end c.loop-n.invariant.1 (omega arith), omega arith)
