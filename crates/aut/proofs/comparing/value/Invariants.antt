use Rattle.std.proofs.Common.{◌≡◌, ◌≤◌, min, drop}
use Rattle.text.specs.Numerals.{decimal_from, decimal_value}
use Rattle.aut.proofs.comparing.value.Given as goal

abbrev pub invariant-loop-digit : goal.invariant-loop-digit
invariant-loop-digit l =
    (l.value ≤ l.bound) × (min (decimal_from l.value (drop l.digit-index l.digits)) l.bound ≡ min (decimal_value l.digits) l.bound)
