-- How the reader's loops follow the order of transitions: one number for the three bytes of a transition, and the least number that the
-- next may have. Contracts of private functions cite these; no promise of a public call does.
use Rattle.std.specs.Prelude.{ℕ, zero, suc, ◌+◌, ◌*◌, ◌<◌, ◌≡◌, Bool, not, ◌&&◌, List, Option, Some, None, length, ltb}
use Rattle.sheet.specs.Bytes.{pick}
use Rattle.sheet.specs.Plan.{state_count, action_count, origin, label, target, rises}

-- the three bytes as one number: a greater number comes later by (from, action, to)
abbrev pub key : ℕ → ℕ → ℕ → ℕ
key f a t = (f * 256 + a) * 256 + t

-- the number of transition i
abbrev pub key_at : List ℕ → ℕ → ℕ
key_at p i = key (origin p i) (label p i) (target p i)

-- the least number that transition i may have: one above that of the transition before it, and 0 for the first
unfoldable pub floor_at : List ℕ → ℕ → ℕ
floor_at p zero = 0
floor_at p (suc i) = key_at p i + 1

-- transition i is faulty in its action, its target or its order: in anything but its origin
unfoldable pub faulty_elsewhere : List ℕ → ℕ → Bool
faulty_elsewhere p i = not (ltb (label p i) (action_count p) && ltb (target p i) (state_count p) && rises p i)

-- the least number that the next transition may have, or none where transition i is faulty by this test
unfoldable pub step_at : (List ℕ → ℕ → Bool) → List ℕ → ℕ → Option ℕ
step_at faulty p i = pick (faulty p i) None (Some (key_at p i + 1))

-- what a loop holds at transition i: S, A and the least number that it may have
pub record Stepping (p : List ℕ) (states actions floor i : ℕ) : Type 0 where
  pub states_are : states ≡ state_count p
  pub actions_are : actions ≡ action_count p
  pub floor_is : floor ≡ floor_at p i
  pub inside : 6 + 3 * i < length p
  pub small : i < 65536
