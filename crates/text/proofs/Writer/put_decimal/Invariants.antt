-- `text::Writer::put_decimal` meets its contract. Of the loop: the digits behind index first are found.
use Rattle.text.proofs.DigitsFound.{DigitsFound}
use Rattle.text.proofs.Writer.put_decimal.Given as goal

abbrev pub invariant-loop-rest : goal.invariant-loop-rest
invariant-loop-rest l = DigitsFound l.n l.digits l.first l.rest

abbrev pub decreases-loop-rest : goal.decreases-loop-rest
decreases-loop-rest l = l.rest
