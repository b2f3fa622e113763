-- Dealings to try, evaluated.
use mathlib.Core.Path.{refl}
use Rattle.sheet.specs.Bytes.{lowest_from}
use Rattle.allowance.specs.Dealing.{deal_from, rounds, deal}
use Rattle.allowance.specs.DealingsToTry.{DealingsToTry}

pub dealings_to_try : DealingsToTry
unfolding deal deal_from rounds lowest_from
dealings_to_try = record {
  seven = refl;
  six = refl;
  two = refl;
  plenty = refl;
  left_over = refl;
  no_visits = refl;
  one_bench = refl;
}
