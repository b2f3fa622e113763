-- The state behind those that passed. Contracts of private functions cite these; no promise of a public call does.
use Rattle.std.specs.Prelude.{ℕ, Option, None, List, get_or, slice_get}
use Rattle.std.specs.Option.{option_map, option_and_then}
use Rattle.closest.specs.declared.Failing.{Failing}
use Rattle.closest.specs.Internal.Distances.{Distances}

-- a state with its steps, if it has any
abbrev pub with_its_steps : Distances → ℕ → Option Failing
with_its_steps d state = option_map (λ n. record { state = record { 0 = state }; steps = n }) (get_or d state None)

abbrev pub failing_at : List ℕ → Distances → ℕ → Option Failing
failing_at order d passed = option_and_then (with_its_steps d) (slice_get order passed)
