-- `sheet::actions::lowest_faulty` meets its contract. Of the loop: no entry below e is faulty.
use Rattle.sheet.proofs.Checks.Seeking.{Seeking}
use Rattle.sheet.specs.Actions.{entry_faulty, lowest_entry}
use Rattle.sheet.proofs.actions.lowest_faulty.Given as goal

abbrev pub invariant-loop-e : goal.invariant-loop-e
invariant-loop-e l = Seeking (entry_faulty l.actions l.a) l.count (lowest_entry l.actions l.a) l.e
