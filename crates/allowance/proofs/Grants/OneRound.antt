-- What one round gives each bench, and how many visits are left after it.
use Prim.Native.Nat.{ℕ, zero, suc, ◌+◌, ◌-◌, ◌<◌, ◌≤◌, min}
use mathlib.Core.Path.{◌≡◌, refl, sym, ap, ap₂, subst, ◌∙◌}
use mathlib.Core.Bool.{Bool, true, false, ◌&&◌}
use mathlib.Core.List.{List}
use mathlib.Core.Logic.{◌⊎◌, inl, inr}
use native.Mathlib.Omega.{arith}
use native.Mathlib.Decide.{ℕ_discrete}
use lib.ListN.{length, set, length-set}
use lib.Seq.{get_or-set_same, get_or-set_other}
use lib.Dec.{ltb}
use borrow.Author.Tests.{lt-ltb, le-ltb}
use Rattle.sheet.specs.Bytes.{pick}
use Rattle.rows.specs.Tables.{count}
use Rattle.rows.proofs.Tables.Counting.{one_if, count_zero, count_suc}
use Rattle.allowance.specs.Dealing.{of_bench, Standing, standing, granted, visits_left, still_short, deal_from}
use Rattle.allowance.specs.DealingCorrect.{RoundUncounted}
use Rattle.allowance.proofs.Grants.Rounds.{deal_cases}

module _ (needs g : List ℕ) (v : ℕ) where
  abbrev short : ℕ → Bool
  short = still_short needs g

  abbrev gets : ℕ → Bool → Bool → ℕ
  gets i a b = pick (a && b) (of_bench g i + 1) (of_bench g i)

  -- what bench i has after the round
  abbrev after : ℕ → ℕ
  after i = gets i (short i) (ltb (count i short) v)

  -- the benches below i have had their turn
  record Turns (i : ℕ) (h : List ℕ) (u : ℕ) : Type 0 where
    pub room : length h ≡ length needs
    pub left_is : u ≡ v - min v (count i short)
    pub had : (j : ℕ) → j < i → of_bench h j ≡ after j
    pub waits : (j : ℕ) → i ≤ j → of_bench h j ≡ of_bench g j

  one_more_short : (i : ℕ) → short i ≡ true → count (suc i) short ≡ count i short + 1
  one_more_short i e = omega (arith, count_suc i short, ap one_if e)

  not_short : (i : ℕ) → short i ≡ false → count (suc i) short ≡ count i short
  not_short i e = omega (arith, count_suc i short, ap one_if e)

  no_fewer : (i : ℕ) → count i short ≤ count (suc i) short
  no_fewer i = go (short i) refl
    where
      go : (b : Bool) → short i ≡ b → count i short ≤ count (suc i) short
      go true e = omega (arith, one_more_short i e)
      go false e = omega (arith, not_short i e)

  module _ {i : ℕ} {h : List ℕ} {u : ℕ} (w : Turns i h u) where
    here : of_bench h i ≡ of_bench g i
    here = w.waits i (omega arith)

    given : i < length needs → 0 < u → of_bench h i < of_bench needs i → Turns (suc i) (set h i (of_bench h i + 1)) (u - 1)
    given l p q = record {
      room = length-set h i (of_bench h i + 1) ∙ w.room;
      left_is = omega (arith, w.left_is, one_more_short i is_short_lem);
      had = λ j m. elim (ℕ_discrete j i) [
        | yes e ↦ ap (of_bench (set h i (of_bench h i + 1))) e ∙ get_or-set_same h i (of_bench h i + 1) 0 (omega (arith, w.room))
            ∙ ap (λ (n : ℕ). n + 1) here ∙ sym (ap₂ (gets i) is_short_lem enough) ∙ ap after (sym e)
        | no e ↦ get_or-set_other h i j (of_bench h i + 1) 0 e ∙ w.had j (omega arith)
      ];
      waits = λ j m. get_or-set_other h i j (of_bench h i + 1) 0 (λ e. omega arith) ∙ w.waits j (omega arith);
    }
      where
        is_short_lem : short i ≡ true
        is_short_lem = lt-ltb (of_bench g i) (of_bench needs i) (omega (arith, here))

        enough : ltb (count i short) v ≡ true
        enough = lt-ltb (count i short) v (omega (arith, w.left_is))

    passed : u ≡ v - min v (count (suc i) short) → after i ≡ of_bench g i → Turns (suc i) h u
    passed e same = record {
      room = w.room;
      left_is = e;
      had = λ j m. elim (ℕ_discrete j i) [
        | yes f ↦ ap (of_bench h) f ∙ here ∙ sym same ∙ ap after (sym f)
        | no f ↦ w.had j (omega arith)
      ];
      waits = λ j m. w.waits j (omega arith);
    }

    kept : (u ≡ 0) ⊎ (of_bench needs i ≤ of_bench h i) → Turns (suc i) h u
    kept (inl z) = passed (omega (arith, w.left_is, no_fewer i)) (nothing (short i))
      where
        none_left : ltb (count i short) v ≡ false
        none_left = le-ltb (count i short) v (omega (arith, w.left_is))

        nothing : (b : Bool) → gets i b (ltb (count i short) v) ≡ of_bench g i
        nothing true = ap (gets i true) none_left
        nothing false = refl
    kept (inr m) = passed (omega (arith, w.left_is, not_short i full)) (ap (λ (b : Bool). gets i b (ltb (count i short) v)) full)
      where
        full : short i ≡ false
        full = le-ltb (of_bench g i) (of_bench needs i) (omega (arith, here))

  abbrev At : ℕ → Standing → Type 0
  At i d = Turns i (granted d) (visits_left d)

  turns : (more i : ℕ) (h : List ℕ) (u : ℕ) → i + more ≡ length needs → Turns i h u → At (length needs) (deal_from needs more i (standing h u))
  unfolding deal_from
  turns zero i h u e w = let f : i ≡ length needs = omega arith in subst (λ (n : ℕ). Turns n h u) f w
  turns (suc more) i h u e w =
      let s : suc i ≡ i + 1 = omega arith in
      deal_cases needs (λ d. At (length needs) (deal_from needs more (i + 1) d)) i h u
      (λ p q. turns more (i + 1) (set h i (of_bench h i + 1)) (u - 1) (omega arith)
      (subst (λ (n : ℕ). Turns n (set h i (of_bench h i + 1)) (u - 1)) s (given w (omega arith) p q)))
      (λ x. turns more (i + 1) h u (omega arith) (subst (λ (n : ℕ). Turns n h u) s (kept w x)))

  pub round_uncounted : length g ≡ length needs → RoundUncounted needs g v
  round_uncounted e =
      let all = turns (length needs) 0 g v (omega arith) start in record { each = λ i l. all.had i l; left = all.left_is }
    where
      start : Turns 0 g v
      start = record { room = e; left_is = omega (arith, count_zero short); had = λ j m. absurd (omega arith); waits = λ j m. refl }
