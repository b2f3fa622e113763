use Prim.Native.Nat.{ℕ}
use mathlib.Core.Path.{sym, ap, ◌∙◌}
use mathlib.Core.List.{List}
use native.Mathlib.Omega.{arith}
use Rattle.recordings.specs.Shortest.{fails_at}
use Rattle.recordings.proofs.Steps.Searching.{search_start, first_fails, second_fails, both_hold, none_fails}
use Rattle.recordings.proofs.searching.search.Goals as goal

pub loop-n-init : goal.loop-n-init
loop-n-init c = search_start c.args.first.sheet.now c.args.first.run.now c.args.second.run.now

pub returns-then-fails_at : goal.returns-then-fails_at
returns-then-fails_at c = first_fails _ _ _ c.loop-n.n c.loop-n.invariant (omega arith) (sym c.fails_at.ensures ∙ c.if-fails_at.true)

pub returns-then-fails_at-2 : goal.returns-then-fails_at-2
returns-then-fails_at-2 c =
    second_fails _ _ _ c.loop-n.n c.loop-n.invariant (omega arith) (sym c.fails_at.ensures ∙ c.if-fails_at.false)
    (ap (λ (s : List ℕ). fails_at s c.args.second.run.now c.loop-n.n) (sym c.requires) ∙ sym c.fails_at-in-loop-n.ensures ∙ c.if-fails_at-2.true)

pub loop-n-preserved : goal.loop-n-preserved
loop-n-preserved c =
    both_hold _ _ _ c.loop-n.n c.loop-n.invariant (omega arith) (sym c.fails_at.ensures ∙ c.if-fails_at.false)
    (ap (λ (s : List ℕ). fails_at s c.args.second.run.now c.loop-n.n) (sym c.requires) ∙ sym c.fails_at-in-loop-n.ensures ∙ c.if-fails_at-2.false)

pub returns : goal.returns
returns c = none_fails _ _ _ c.loop-n.n c.loop-n.invariant (omega arith)
