-- What the loop keeps.
use Rattle.std.proofs.Common.{◌≡◌}
use Rattle.patterns.proofs.Steps.Copies.{Copying}
use Rattle.patterns.proofs.draft.Draft.put_rule.Given as goal

abbrev pub invariant-loop-i : goal.invariant-loop-i
invariant-loop-i l = record {
  copying : Copying l.rule l.initial.self.nodes l.initial.self.binders l.initial.self.body l.self.body l.i;
  same : l.self ≡ record l.initial.self { body = l.self.body };
}
