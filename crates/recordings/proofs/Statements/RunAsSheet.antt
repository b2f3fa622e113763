use Rattle.recordings.specs.RunAsSheet.{RunAsSheet}
use Rattle.recordings.proofs.Plans.Sheets.{chain_passed, chain_actions, chain_rule, sheet_plan_is, sheet_no_loop, chain_verdict}

pub run_as_sheet : RunAsSheet
run_as_sheet s k run r =
    record {
      passed = chain_passed s k run r;
      plan_is = sheet_plan_is s k run r;
      actions_body_same = chain_actions s k run r;
      rule_body_same = chain_rule s k run r;
      no_loop = sheet_no_loop s k run r;
      verdict = chain_verdict s k run r;
    }
