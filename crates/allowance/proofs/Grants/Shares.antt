-- What dealing gives each bench: at least a fair share, never more than its need, and all visits or all needs in sum.
use Prim.Native.Nat.{ℕ, zero, suc, ◌+◌, ◌-◌, ◌*◌, ◌/◌, ◌<◌, ◌≤◌, min}
use mathlib.Core.Path.{◌≡◌, refl, sym, subst, ◌∙◌}
use mathlib.Core.Bool.{Bool, true, false}
use mathlib.Core.List.{List, [], ◌∷◌}
use mathlib.Core.Logic.{◌⊎◌, inl, inr}
use native.Mathlib.Omega.{arith}
use native.Mathlib.Nat.{div-mul-le_self, mul-le-mul_right}
use native.Mathlib.Decide.{ℕ_discrete, dec_lt}
use lib.ListN.{length, set, replicate, length-set, length-replicate}
use lib.Seq.{get_or-set_same, get_or-set_other}
use Rattle.sheet.specs.Bytes.{pick}
use Rattle.allowance.specs.Dealing.{of_bench, Standing, standing, granted, visits_left, deal_to, deal_from, one_round}
use Rattle.allowance.specs.Dealing.{is_over, rounds, round_after_round, before_dealing, deal}
use Rattle.allowance.specs.DealingCorrect.{sum, WellDealt}
use Rattle.allowance.proofs.Lists.ForBenches.{replicate_at}
use Rattle.allowance.proofs.Grants.Rounds.{deal_cases, rounds_keep, round_leaves, rounds_leave}
use Rattle.allowance.proofs.Grants.Rounds.{over_cases, round_less, it_ends, Level, whole_round, level_zero}

-- ---- sums

sum_more : (g : List ℕ) (i : ℕ) → i < length g → sum (set g i (of_bench g i + 1)) ≡ sum g + 1
unfolding sum
sum_more [] i h = absurd (omega arith)
sum_more (n ∷ g) zero h = omega arith
sum_more (n ∷ g) (suc i) h = omega (arith, sum_more g i (omega arith))

sum_le : (g h : List ℕ) → length g ≡ length h → ((j : ℕ) → j < length g → of_bench g j ≤ of_bench h j) → sum g ≤ sum h
unfolding sum
sum_le [] h e le = omega arith
sum_le (n ∷ g) [] e le = absurd (omega arith)
sum_le (n ∷ g) (m ∷ h) e le = omega (arith, le 0 (omega arith), sum_le g h (omega arith) (λ j l. le (suc j) (omega arith)))

sum_zeros : (n : ℕ) → sum (replicate n 0) ≡ 0
unfolding sum
sum_zeros zero = refl
sum_zeros (suc n) = omega (arith, sum_zeros n)

module _ (needs : List ℕ) where
  -- ---- never more than the need, and every visit granted or left

  record Right (visits : ℕ) (d : Standing) : Type 0 where
    pub room : length (granted d) ≡ length needs
    pub at_most_holds : (j : ℕ) → of_bench (granted d) j ≤ of_bench needs j
    pub spent : sum (granted d) + visits_left d ≡ visits

  visit_right : (visits i : ℕ) → i < length needs → (d : Standing) → Right visits d → Right visits (deal_to needs i d)
  visit_right visits i h (standing g v) r = deal_cases needs (Right visits) i g v given (λ q. r)
    where
      given : 0 < v → of_bench g i < of_bench needs i → Right visits (standing (set g i (of_bench g i + 1)) (v - 1))
      given p q = record {
        room = length-set g i (of_bench g i + 1) ∙ r.room;
        at_most_holds = λ j. elim (ℕ_discrete j i) [
          | yes e ↦ subst (λ (n : ℕ). of_bench (set g i (of_bench g i + 1)) n ≤ of_bench needs n) (sym e)
              (omega (arith, get_or-set_same g i (of_bench g i + 1) 0 (omega (arith, r.room))))
          | no e ↦ omega (arith, get_or-set_other g i j (of_bench g i + 1) 0 e, r.at_most_holds j)
        ];
        spent = omega (arith, sum_more g i (omega (arith, r.room)), r.spent);
      }

  -- ---- a fair share

  -- a round spends a visit a bench at most
  round_most : (count i : ℕ) (d : Standing) → visits_left d ≤ visits_left (deal_from needs count i d) + count
  unfolding deal_from
  round_most zero i d = omega arith
  round_most (suc count) i (standing g v) =
      deal_cases needs (λ d. v ≤ visits_left (deal_from needs count (i + 1) d) + suc count) i g v
      (λ p q. omega (arith, round_most count (i + 1) (standing (set g i (of_bench g i + 1)) (v - 1))))
      (λ x. omega (arith, round_most count (i + 1) (standing g v)))

  -- each bench has its need, or q visits
  record Share (q : ℕ) (d : Standing) : Type 0 where
    pub has : (j : ℕ) → j < length needs → min (of_bench needs j) q ≤ of_bench (granted d) j

  level_share : (q r : ℕ) (g : List ℕ) (v : ℕ) → Level needs r 0 g → q ≤ r → Share q (standing g v)
  level_share q r g v w h = record { has = λ j l. omega (arith, w.waits j (omega arith) l) }

  over_share : 0 < length needs → (q r : ℕ) (g : List ℕ) (v : ℕ) → Level needs r 0 g → q * length needs ≤ v + r * length needs
      → (v ≡ 0) ⊎ ((j : ℕ) → j < length needs → of_bench needs j ≤ of_bench g j) → Share q (standing g v)
  over_share some q r g v w e (inr n) = record { has = λ j l. omega (arith, n j l) }
  over_share some q r g v w e (inl z) =
      elim (dec_lt r q) [
        | yes m ↦ absurd (omega (arith, mul-le-mul_right (length needs) m))
        | no m ↦ level_share q r g v w (omega arith)
      ]

  -- while shares are not full there is a visit for every bench in each round
  fair_share : 0 < length needs → (q f r : ℕ) (d : Standing) → visits_left d ≤ f → Level needs r 0 (granted d)
      → q * length needs ≤ visits_left d + r * length needs → Share q (rounds needs f d)
  unfolding rounds
  fair_share some q zero r (standing g v) h w e = over_share some q r g v w e (inl (omega arith))
  fair_share some q (suc f) r (standing g v) h w e = go (is_over needs (standing g v)) refl (fair_share some q f (r + 1) next)
    where
      next : Standing
      next = one_round needs (standing g v)

      go : (b : Bool) → is_over needs (standing g v) ≡ b
          → (visits_left next ≤ f → Level needs (r + 1) 0 (granted next)
          → q * length needs ≤ visits_left next + (r + 1) * length needs → Share q (rounds needs f next))
          → Share q (pick b (standing g v) (rounds needs f next))
      go true p rest = over_share some q r g v w e (over_cases needs g v p)
      go false p rest =
          elim (dec_lt r q) [
            | yes m ↦ rest (omega (arith, round_less needs g v p))
                (whole_round needs r g v (inl (omega (arith, mul-le-mul_right (length needs) m))) w)
                (omega (arith, round_most (length needs) 0 (standing g v)))
            | no m ↦ record {
              has = λ j l. rounds_leave needs j (min (of_bench needs j) q) f next
                  (round_leaves needs j (min (of_bench needs j) q) (length needs) 0 (standing g v)
                  ((level_share q r g v w (omega arith)).has j l));
            }
          ]

  -- ---- the sum

  sum_over : (visits : ℕ) (d : Standing) → Right visits d → is_over needs d ≡ true → sum (granted d) ≡ min visits (sum needs)
  sum_over visits (standing g v) r o = go (over_cases needs g v o)
    where
      go : (v ≡ 0) ⊎ ((j : ℕ) → j < length needs → of_bench needs j ≤ of_bench g j) → sum g ≡ min visits (sum needs)
      go (inl z) = omega (arith, r.spent, sum_le g needs r.room (λ j l. r.at_most_holds j))
      go (inr n) = omega (arith, r.spent, sum_le g needs r.room (λ j l. r.at_most_holds j), sum_le needs g (sym r.room) n)

  -- ---- the three facts

  pub well_dealt_all : (visits : ℕ) → WellDealt needs visits (deal needs visits)
  unfolding deal
  well_dealt_all visits = record {
    for_each = right.room;
    at_least = λ i l. (share (omega arith)).has i l;
    at_most_holds = λ i l. right.at_most_holds i;
    grants_sum = sum_over visits end right (it_ends needs (before_dealing needs visits));
  }
    where
      end : Standing
      end = round_after_round needs (before_dealing needs visits)

      right : Right visits end
      right = rounds_keep needs (Right visits) (visit_right visits) visits (before_dealing needs visits) (record {
        room = length-replicate (length needs) 0;
        at_most_holds = λ j. omega (arith, replicate_at {A = ℕ} (length needs) j 0);
        spent = omega (arith, sum_zeros (length needs));
      })

      share : 0 < length needs → Share (visits / length needs) end
      share some =
          fair_share some (visits / length needs) visits 0 (before_dealing needs visits) (omega arith) (level_zero needs)
          (omega (arith, div-mul-le_self visits (length needs)))
