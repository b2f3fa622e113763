-- Step counts and the list of reachable states are what ways say.
use native.Mathlib.Omega.{arith}
use Rattle.closest.specs.Steps.{stay, StepsExactly}
use Rattle.closest.proofs.Ways.Within.{at_steps_lem, steps_computed, way_counted}
use Rattle.closest.proofs.Ways.Order.{listed, states_in_order_lem}
use Rattle.closest.proofs.Ways.Later.{reachable_exactly}

pub steps_exactly : StepsExactly
steps_exactly = record {
  reachable = reachable_exactly;
  counted = λ p t r. way_counted p ((reachable_exactly p t).1 r).1;
  one_count = λ p t n m a b. omega (arith, a.fewest m b.way, b.fewest n a.way);
  start = λ p. record { way = stay; fewest = λ m w. omega arith };
  computed = λ p t n. (at_steps_lem p n t, steps_computed p t n);
  listed = listed;
  ordered = states_in_order_lem;
}
