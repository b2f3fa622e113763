-- `judge::preparing::prepare_rule` meets its contract.
use Rattle.std.proofs.Common.{subst, List, ℕ}
use Rattle.judge.specs.Internal.Preparing.{Ends}
use Rattle.judge.proofs.Steps.PrepareAudit.{ends_asked}
use Rattle.judge.proofs.preparing.prepare_rule.Goals as goal

pub ends_of-index-requires : goal.ends_of-index-requires
ends_of-index-requires c = ends_asked c.args.sheet.now c.requires c.rule_body.ensures c.index_of-index.ensures.binders_are

pub returns : goal.returns
returns c =
    let h = c.index_of-index.ensures in
    record {
      headed = record { size = h.size; offset_is = h.offset_is; nodes_are = h.nodes_are; marks_are = h.marks_are; binders_are = h.binders_are };
      ends_are = subst (λ (x : List ℕ). Ends x c.ends_of-index.result) c.rule_body.ensures c.ends_of-index.ensures;
    }
