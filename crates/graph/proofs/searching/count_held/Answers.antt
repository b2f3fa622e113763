-- `graph::searching::count_held` meets its contract.
use Rattle.std.proofs.Common.{arith, ℕ, ◌/◌, ◌∙◌, ap, ap₂}
use Rattle.std.specs.Prelude.{min}
use Rattle.graph.proofs.Search.Halving.{held_least}
use Rattle.graph.proofs.searching.count_held.Goals as goal

pub returns : goal.returns
returns c = record {
  is_held =
      c.min.ensures ∙
      (ap₂ min (ap (λ (k : ℕ). k / 3) c.saturating_sub-whole.ensures) c.transition_count-stated.ensures ∙ held_least c.args.plan.now);
  few = omega arith;
}
