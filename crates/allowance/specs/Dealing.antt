-- Document 02 (l): "Visits are dealt singly in bench order, round after round, to benches still short, until V is spent or none is short."
-- For any number of benches: they are numbered from 0 on, and needs and grants are lists with a number for each. It is round-robin
-- allocation, a visit at a time: benches are the clients, a need is a demand and a grant an allocation; a visit is a cell filled.
use Rattle.std.specs.Prelude.{ℕ, zero, suc, ◌+◌, ◌-◌, Bool, ◌&&◌, ◌||◌, List, length, get_or, set, replicate, eqb, ltb}
use Rattle.sheet.specs.Bytes.{pick, lowest}

-- the number that a list has for a bench
abbrev pub of_bench : List ℕ → ℕ → ℕ
of_bench l i = get_or l i 0

-- where dealing stands: what each bench was granted so far, and how many visits are left
pub data Standing : Type 0 where
  standing : List ℕ → ℕ → Standing

abbrev pub granted : Standing → List ℕ
granted (standing g v) = g

abbrev pub visits_left : Standing → ℕ
visits_left (standing g v) = v

module _ (needs : List ℕ) where
  -- bench i is "still short": its demand is not met, it was granted less than its need
  abbrev pub still_short : List ℕ → ℕ → Bool
  still_short g i = ltb (of_bench g i) (of_bench needs i)

  -- "singly": one visit to bench i, where a visit is left and the bench is still short
  abbrev pub deal_to : ℕ → Standing → Standing
  deal_to i (standing g v) = pick (ltb 0 v && still_short g i) (standing (set g i (of_bench g i + 1)) (v - 1)) (standing g v)

  -- "in bench order": count benches, from bench i on
  unfoldable pub deal_from : ℕ → ℕ → Standing → Standing
  deal_from zero i d = d
  deal_from (suc count) i d = deal_from count (i + 1) (deal_to i d)

  -- a round: every bench, in order
  abbrev pub one_round : Standing → Standing
  one_round d = deal_from (length needs) 0 d

  -- "V is spent or none is short"
  abbrev pub is_over : Standing → Bool
  is_over (standing g v) = eqb v 0 || eqb (lowest (still_short g) (length needs)) (length needs)

  -- "round after round .. until V is spent or none is short", at most so many rounds
  unfoldable pub rounds : ℕ → Standing → Standing
  rounds zero d = d
  rounds (suc most) d = pick (is_over d) d (rounds most (one_round d))

  -- a round before the end spends a visit at least, so that no more rounds are needed than visits are left (RoundsUncounted of
  -- specs/DealingCorrect.antt)
  abbrev pub round_after_round : Standing → Standing
  round_after_round d = rounds (visits_left d) d

  -- before the first round no bench has a visit, and all V, the allowance, are left
  abbrev pub before_dealing : ℕ → Standing
  before_dealing allowance = standing (replicate (length needs) 0) allowance

  -- the grants, of an allowance of V visits
  unfoldable pub deal : ℕ → List ℕ
  deal allowance = granted (round_after_round (before_dealing allowance))
