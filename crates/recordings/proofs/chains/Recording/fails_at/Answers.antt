use mathlib.Core.Path.{ap₂, ◌∙◌}
use mathlib.Core.List.{List}
use Prim.Native.Nat.{ℕ}
use mathlib.Core.Bool.{not}
use Rattle.recordings.specs.Shortest.{holds_on}
use Rattle.recordings.proofs.Steps.Judging.{no_beginning, of_beginning}
use Rattle.recordings.proofs.chains.Recording.fails_at.Goals as goal

pub returns-then-n-self : goal.returns-then-n-self
returns-then-n-self c =
    of_beginning c.args.self.sheet.now c.args.self.run.now c.args.self.chain.now c.args.n c.args.self.judgeable c.if-n-self.true
    (c.fails.ensures ∙ ap₂ (λ (s run : List ℕ). not (holds_on s run)) c.beginning.ensures.sheet_same c.beginning.ensures.front)

pub returns-else-n-self : goal.returns-else-n-self
returns-else-n-self c = no_beginning c.args.self.sheet.now c.args.self.run.now c.args.self.chain.now c.args.n c.if-n-self.false
