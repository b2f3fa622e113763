-- Dealing: rounds, and what they give each bench.
use mathlib.Core.List.{List}
use Prim.Native.Nat.{ℕ}
use Rattle.allowance.specs.Dealing.{deal}
use Rattle.allowance.specs.DealingCorrect.{RoundsUncounted, DealingCorrect}
use Rattle.allowance.proofs.Grants.OneRound.{round_uncounted}
use Rattle.allowance.proofs.Grants.Rounds.{next_round, it_ends, few_rounds}
use Rattle.allowance.proofs.Grants.Shares.{well_dealt_all}

rounds_all : (needs : List ℕ) → RoundsUncounted needs
unfolding deal
rounds_all needs = record { next = next_round needs; ends = it_ends needs; few = few_rounds needs }

pub dealing_correct : DealingCorrect
dealing_correct = record { round_is = round_uncounted; rounds_are = rounds_all; well_dealt = well_dealt_all }
