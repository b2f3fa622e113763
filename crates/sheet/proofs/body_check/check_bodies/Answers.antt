use Rattle.std.proofs.Common.{rules}
use Rattle.sheet.specs.Reading.{bodies_check}
use Rattle.sheet.proofs.body_check.check_bodies.Goals as goal

pub returns-in_err-check_plan : goal.returns-in_err-check_plan
unfolding bodies_check
returns-in_err-check_plan c = search rules

pub returns-in_err-check_actions : goal.returns-in_err-check_actions
unfolding bodies_check
returns-in_err-check_actions c = search rules

pub returns : goal.returns
unfolding bodies_check
returns c = search rules
