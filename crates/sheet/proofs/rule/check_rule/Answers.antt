-- `sheet::rule::check_rule` meets its contract.
use native.Mathlib.Omega.{arith}
use mathlib.Core.Path.{sym, ◌∙◌}
use Rattle.sheet.proofs.Steps.Sizes.{rule_root}
use Rattle.sheet.proofs.Steps.BodyChecks.{rule_unsized, rule_malformed, rule_misbound, rule_passed}
use Rattle.sheet.proofs.rule.check_rule.Goals as goal

pub returns-then-not-sized : goal.returns-then-not-sized
returns-then-not-sized c = rule_unsized _ _ (sym c.sized.ensures ∙ c.if-not-sized.true)

pub syntax_fault-s-requires : goal.syntax_fault-s-requires
syntax_fault-s-requires c = rule_root _ (sym c.sized.ensures ∙ c.if-not-sized.false)

pub returns-then-s-count : goal.returns-then-s-count
returns-then-s-count c = rule_malformed _ _ _ (sym c.sized.ensures ∙ c.if-not-sized.false) c.syntax_fault-s.ensures.0 (omega arith)

pub returns-then-b-count : goal.returns-then-b-count
returns-then-b-count c =
    let at-if1 = c in
    let at-sized = at-if1 in
    rule_misbound _ _ _ (sym at-sized.sized.ensures ∙ at-if1.if-not-sized.false) (omega arith) c.lowest_faulty-b.ensures.0 (omega arith)

pub returns : goal.returns
returns c = rule_passed _ _ (sym c.sized.ensures ∙ c.if-not-sized.false) (omega arith) (omega arith)
