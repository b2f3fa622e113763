-- The needs and the verdicts by bench, and what an answer that refuses leaves.
use Rattle.std.specs.Prelude.{Ok, Err}
use Prim.Native.Nat.{ℕ, ◌<◌}
use mathlib.Core.Path.{◌≡◌, refl}
use mathlib.Core.List.{List}
use mathlib.Core.Logic.{◌≢◌}
use lib.ListN.{length}
use Rattle.allowance.specs.Dealing.{of_bench}
use Rattle.allowance.specs.Granting.{no_benches, need_of, needs_of, benches_by, tables_by, reported_answer}
use Rattle.allowance.specs.Granting.{Answer}
use Rattle.allowance.specs.declared.GrantError.TheVariants.{BenchCountWrong, WrongCount, Refused}
use Rattle.allowance.proofs.Lists.ForBenches.{for_length, for_first}

module _ (s states t : List ℕ) where
  pub need_count : length (needs_of s states t) ≡ length states
  need_count = for_length (need_of s states t) (length states) 0

  pub need_of_bench : (i : ℕ) → i < length states → of_bench (needs_of s states t) i ≡ need_of s states t i
  need_of_bench i h = for_first (need_of s states t) (length states) i 0 h

  pub refused_nothing : (allowance : ℕ) (a : Answer) → (reported_answer a).number ≢ 0
      → (benches_by s states t allowance a ≡ no_benches) × (tables_by s states t allowance a ≡ t)
  refused_nothing allowance (Ok tt) n = absurd (n refl)
  refused_nothing allowance (Err BenchCountWrong) n = (refl, refl)
  refused_nothing allowance (Err WrongCount) n = (refl, refl)
  refused_nothing allowance (Err (Refused x)) n = (refl, refl)
