-- `sheet::reader::check` meets its contract.
use native.Mathlib.Omega.{arith}
use mathlib.Core.Path.{◌∙◌}
use Rattle.sheet.specs.Refusals.{reported_check}
use Rattle.sheet.proofs.Checks.Checks.{with_report}
use Rattle.sheet.proofs.Steps.Sheet.{sheet_short}
use Rattle.sheet.proofs.Steps.Taken.{in_order}
use Rattle.sheet.proofs.reader.check.Goals as goal

pub returns-then-sheet-lt-HEAD_LENGTH : goal.returns-then-sheet-lt-HEAD_LENGTH
returns-then-sheet-lt-HEAD_LENGTH c = record { value = (with_report reported_check (sheet_short _ (omega arith))).0; result_value = (with_report reported_check (sheet_short _ (omega arith))).1 }

pub returns : goal.returns
returns c = record { value = (with_report reported_check (c.check_in_order.ensures ∙ in_order _ (omega arith))).0; result_value = (with_report reported_check (c.check_in_order.ensures ∙ in_order _ (omega arith))).1 }
