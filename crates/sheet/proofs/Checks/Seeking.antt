-- The invariant of a loop that counts up to the lowest number at which a test holds, and what the loop's start, its turns and its ends show of it.
use Prim.Native.Nat.{ℕ, ◌+◌, ◌-◌, ◌<◌, ◌≤◌}
use mathlib.Core.Path.{◌≡◌}
use mathlib.Core.Bool.{Bool, true, false}
use native.Mathlib.Omega.{arith}
use Rattle.sheet.specs.Bytes.{lowest_from, lowest}
use Rattle.sheet.proofs.Checks.Lowest.{search_start, search_here, search_next, search_end}

-- of count numbers those below i have failed the test; found is the answer
pub record Seeking (test : ℕ → Bool) (count found i : ℕ) : Type 0 where
  pub within : i ≤ count
  pub rest : lowest_from test (count - i) i ≡ found

pub seek_start : (test : ℕ → Bool) (count n : ℕ) → count ≡ n → Seeking test count (lowest test n) 0
seek_start test count n e = record { within = omega arith; rest = search_start test count n e }

module _ {test : ℕ → Bool} {count found i : ℕ} (s : Seeking test count found i) where
  pub seek_here : i < count → test i ≡ true → i ≡ found
  seek_here h e = search_here test count i found h e s.rest

  pub seek_next : i < count → test i ≡ false → Seeking test count found (i + 1)
  seek_next h e = record { within = omega arith; rest = search_next test count i found h e s.rest }

  pub seek_end : count ≤ i → i ≡ found
  seek_end h = search_end test count i found h s.rest
