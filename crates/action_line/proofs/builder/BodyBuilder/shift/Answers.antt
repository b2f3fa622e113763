-- `action_line::builder::BodyBuilder::shift` meets its contract.
use Rattle.std.proofs.Common.{ℕ, List, ◌∷◌, ap, ◌∙◌, arith}
use Rattle.action_line.specs.Precedence.{Waiting}
use Rattle.action_line.specs.Internal.Building.{kind_of, made, stack_of}
use Rattle.action_line.proofs.Steps.Reducing.{pushed}
use Rattle.action_line.proofs.builder.BodyBuilder.shift.Goals as goal

pub returns : goal.returns
returns c =
    let s = c.args.self.now in
    ap (λ (ws : List (Waiting ℕ)). record { depth = s.depth; stack = ws; made = made s.count s.made })
    (pushed s.waiting s.top _ (omega arith)
    ∙ ap (λ (l : ℕ). record { kind = kind_of c.args.operator; depth = s.depth; left = l } ∷ stack_of s.waiting s.top) c.latest.ensures)
