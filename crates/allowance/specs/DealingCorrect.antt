-- Document 02 (l): what dealing gives each bench, for any number of benches, any needs and any V. Shown by dealing_correct of
-- proofs/Statements/DealingCorrect.antt.
use Rattle.std.specs.Prelude.{ℕ, ◌+◌, ◌-◌, ◌/◌, ◌<◌, ◌≤◌, min, ◌≡◌, true, ◌&&◌, List, [], ◌∷◌, length, ltb}
use Rattle.sheet.specs.Bytes.{pick}
use Rattle.rows.specs.Tables.{count}
use Rattle.allowance.specs.Dealing.{of_bench, Standing, standing, granted, visits_left, still_short, one_round, is_over, rounds}
use Rattle.allowance.specs.Dealing.{round_after_round, before_dealing, deal}

-- the sum of the numbers of a list
unfoldable pub sum : List ℕ → ℕ
sum [] = 0
sum (n ∷ l) = n + sum l

-- "Each bench gets at least the smaller of its need and V divided by k, rounded down, never more than its need, and the grants sum to the
-- smaller of V and the needs' sum."
pub record WellDealt (needs : List ℕ) (allowance : ℕ) (grants : List ℕ) : Type 0 where
  -- a grant for each bench
  pub for_each : length grants ≡ length needs
  pub at_least : (i : ℕ) → i < length needs → min (of_bench needs i) (allowance / length needs) ≤ of_bench grants i
  pub at_most_holds : (i : ℕ) → i < length needs → of_bench grants i ≤ of_bench needs i
  pub grants_sum : sum grants ≡ min allowance (sum needs)

-- "singly in bench order": a round, said of each bench, where v visits are left before it
pub record RoundUncounted (needs g : List ℕ) (v : ℕ) : Type 0 where
  -- a bench still short gets one visit, where fewer benches before it are short than visits are left
  pub each :
      (i : ℕ) → i < length needs
      → of_bench (granted (one_round needs (standing g v))) i
      ≡ pick (still_short needs g i && ltb (count i (still_short needs g)) v) (of_bench g i + 1) (of_bench g i)
  pub left : visits_left (one_round needs (standing g v)) ≡ v - min v (count (length needs) (still_short needs g))

-- "round after round .. until": what is said of rounds, without a number that is counted down
pub record RoundsUncounted (needs : List ℕ) : Type 0 where
  -- over where V is spent or none is short, and else one round and then round after round
  pub next : (d : Standing) → round_after_round needs d ≡ pick (is_over needs d) d (round_after_round needs (one_round needs d))
  -- it comes to an end
  pub ends : (d : Standing) → is_over needs (round_after_round needs d) ≡ true
  -- and no more rounds are needed than the largest grant, so that a large V takes no longer
  pub few :
      (allowance most : ℕ) → ((i : ℕ) → i < length needs → of_bench (deal needs allowance) i ≤ most)
      → round_after_round needs (before_dealing needs allowance) ≡ rounds needs most (before_dealing needs allowance)

pub record DealingCorrect : Type 0 where
  pub round_is : (needs g : List ℕ) (v : ℕ) → length g ≡ length needs → RoundUncounted needs g v
  pub rounds_are : (needs : List ℕ) → RoundsUncounted needs
  pub well_dealt : (needs : List ℕ) (allowance : ℕ) → WellDealt needs allowance (deal needs allowance)
