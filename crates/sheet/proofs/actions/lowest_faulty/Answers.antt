use native.Mathlib.Omega.{arith}
use mathlib.Core.Path.{◌≡◌, sym, ◌∙◌}
use Rattle.sheet.proofs.Checks.Seeking.{seek_start, seek_here, seek_next, seek_end}
use Rattle.sheet.proofs.actions.lowest_faulty.Goals as goal

pub loop-e-init : goal.loop-e-init
loop-e-init c = seek_start _ _ _ c.byte_at-count.ensures.0

pub returns-then-entry_faulty : goal.returns-then-entry_faulty
returns-then-entry_faulty c = (seek_here c.loop-e.invariant (omega arith) (sym c.entry_faulty.ensures ∙ c.if-entry_faulty.true), omega arith)

pub loop-e-preserved : goal.loop-e-preserved
loop-e-preserved c = seek_next c.loop-e.invariant (omega arith) (sym c.entry_faulty.ensures ∙ c.if-entry_faulty.false)

pub returns : goal.returns
returns c = let at_end : c.byte_at-count.result ≡ c.loop-e.e = omega arith in
    (at_end ∙ seek_end c.loop-e.invariant (omega arith), omega arith)
