use native.Mathlib.Omega.{arith}
use mathlib.Core.Path.{◌≡◌, refl, sym, ap, ◌∙◌}
use mathlib.Core.List.{List}
use Prim.Native.Nat.{ℕ}
use lib.ListN.{replicate, length-map}
use Rattle.allowance.specs.Dealing.{standing, one_round}
use Rattle.allowance.specs.Internal.Benches.{needs_in, grants_in}
use Rattle.allowance.proofs.Steps.Dealing.{dealing_starts, dealing_spent, round_no_more, dealing_goes_on, dealing_full}
use Rattle.allowance.proofs.dealing.deal.Goals as goal

pub loop-left-init : goal.loop-left-init
loop-left-init c = record {
  dealing = dealing_starts (needs_in c.args.benches.now) (grants_in c.args.benches.now) c.args.allowance
      (c.requires ∙ ap (λ (n : ℕ). replicate n 0) (sym (length-map c.args.benches.now (λ b. b.need))));
  needs_same = refl;
  verdicts_same = refl;
}

-- the round, of the needs that the benches had at first
dealt_again : {m n h : List ℕ} (g : List ℕ) (v : ℕ) {u : ℕ} → standing h u ≡ one_round m (standing g v) → m ≡ n → standing h u ≡ one_round n (standing g v)
dealt_again g v e is = e ∙ ap (λ (l : List ℕ). one_round l (standing g v)) is

pub returns-then-after-left-clause-dealt : goal.returns-then-after-left-clause-dealt
returns-then-after-left-clause-dealt c =
    dealing_full c.loop-left.invariant.dealing (dealt_again _ _ c.round-after.ensures.dealt c.loop-left.invariant.needs_same) c.if-after-left.true

pub loop-left-smaller : goal.loop-left-smaller
loop-left-smaller c =
    omega (arith, round_no_more c.loop-left.invariant.dealing (dealt_again _ _ c.round-after.ensures.dealt c.loop-left.invariant.needs_same))

pub loop-left-preserved : goal.loop-left-preserved
loop-left-preserved c = record {
  dealing = dealing_goes_on c.loop-left.invariant.dealing (dealt_again _ _ c.round-after.ensures.dealt c.loop-left.invariant.needs_same);
  needs_same = c.round-after.ensures.needs_same ∙ c.loop-left.invariant.needs_same;
  verdicts_same = c.round-after.ensures.verdicts_same ∙ c.loop-left.invariant.verdicts_same;
}

pub returns-clause-dealt : goal.returns-clause-dealt
returns-clause-dealt c = dealing_spent c.loop-left.invariant.dealing (omega arith)
