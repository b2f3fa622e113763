-- The height of a settled state is the least round that settles it, and its successors have smaller heights.
use mathlib.Core.Bool.{Bool, true, false, true≢false}
use mathlib.Core.List.{List, Memᴰ}
use mathlib.Core.Path.{◌≡◌, refl, sym, subst, ◌∙◌}
use Prim.Native.Nat.{ℕ, zero, suc, ◌≤◌, ◌<◌}
use native.Mathlib.Nat.{le_of_suc-le-suc}
use native.Mathlib.Omega.{arith}
use Rattle.graph.specs.LoopTest.{settled}
use Rattle.graph.proofs.Looptest.Settled.{all_members, settled_next, settled_zero}

-- the first number below n that passes a test, n if none does
unfoldable pub least : ℕ → (ℕ → Bool) → ℕ
least zero p = 0
least (suc n) p = elim (p 0) [ true ↦ 0 | false ↦ suc (least n (λ i. p (suc i))) ]

-- the least round that settles a state, of the rounds up to n
unfoldable pub height : (ℕ → List ℕ) → ℕ → ℕ → ℕ
height next n s = least n (λ r. settled next r s)

least_here : (n : ℕ) (p : ℕ → Bool) → p 0 ≡ true → least (suc n) p ≡ 0
unfolding least
least_here n p e = rw (e, least)

least_later : (n : ℕ) (p : ℕ → Bool) → p 0 ≡ false → least (suc n) p ≡ suc (least n (λ i. p (suc i)))
unfolding least
least_later n p e = rw (e, least)

least_zero : (p : ℕ → Bool) → least 0 p ≡ 0
unfolding least
least_zero p = refl

pub least_at_most : (n : ℕ) (p : ℕ → Bool) → least n p ≤ n
least_at_most zero p = omega (arith, least_zero p)
least_at_most (suc n) p = go (p 0) refl (least_at_most n (λ i. p (suc i)))
  where
    go : (b : Bool) → p 0 ≡ b → least n (λ i. p (suc i)) ≤ n → least (suc n) p ≤ suc n
    go true e h = omega (arith, least_here n p e)
    go false e h = omega (arith, least_later n p e)

-- no number that passes is below the least
pub least_below : (n : ℕ) (p : ℕ → Bool) (i : ℕ) → p i ≡ true → least n p ≤ i
least_below zero p i e = omega (arith, least_zero p)
least_below (suc n) p i e = go (p 0) refl i e (least_below n (λ i. p (suc i)))
  where
    go : (b : Bool) → p 0 ≡ b → (i : ℕ) → p i ≡ true → ((i : ℕ) → p (suc i) ≡ true → least n (λ i. p (suc i)) ≤ i) → least (suc n) p ≤ i
    go true q i e rest = omega (arith, least_here n p q)
    go false q zero e rest = absurd (true≢false (sym e ∙ q))
    go false q (suc i) e rest = omega (arith, least_later n p q, rest i e)

-- where some number up to n passes, the least does
pub least_passes : (n : ℕ) (p : ℕ → Bool) (i : ℕ) → i ≤ n → p i ≡ true → p (least n p) ≡ true
least_passes zero p i h e = let q : i ≡ 0 = omega arith in rw (least_zero p) (subst (λ (k : ℕ). p k ≡ true) q e)
least_passes (suc n) p i h e = go (p 0) refl i h e (least_passes n (λ i. p (suc i)))
  where
    go : (b : Bool) → p 0 ≡ b → (i : ℕ) → i ≤ suc n → p i ≡ true
        → ((i : ℕ) → i ≤ n → p (suc i) ≡ true → p (suc (least n (λ i. p (suc i)))) ≡ true) → p (least (suc n) p) ≡ true
    go true q i h e rest = rw (least_here n p q) q
    go false q zero h e rest = absurd (true≢false (sym e ∙ q))
    go false q (suc i) h e rest = rw (least_later n p q) (rest i (le_of_suc-le-suc h) e)

module _ (next : ℕ → List ℕ) where
  pub settled_suc : (r s : ℕ) → settled next r s ≡ true → settled next (suc r) s ≡ true
  unfolding settled
  settled_suc zero s h = absurd (true≢false (sym h))
  settled_suc (suc r) s h = all_members (λ t. settled next (suc r) t) (next s) (λ t m. settled_suc r t (settled_next next r s t h m))

  module _ (S : ℕ) where
    pub height_settled : (s : ℕ) → settled next S s ≡ true → settled next (height next S s) s ≡ true
    unfolding height
    height_settled s h = least_passes S (λ r. settled next r s) S (omega arith) h

    pub height_least : (s r : ℕ) → settled next r s ≡ true → height next S s ≤ r
    unfolding height
    height_least s r h = least_below S (λ r. settled next r s) r h

    pub height_at_most : (s : ℕ) → height next S s ≤ S
    unfolding height
    height_at_most s = least_at_most S (λ r. settled next r s)

    pub successor_settled : (s t : ℕ) → settled next S s ≡ true → Memᴰ t (next s) → settled next S t ≡ true
    successor_settled s t h m = settled_next next S s t (settled_suc S s h) m

    pub height_falls : (s t : ℕ) → settled next S s ≡ true → Memᴰ t (next s) → height next S t < height next S s
    height_falls s t h m = go (height next S s) refl (height_settled s h)
      where
        go : (k : ℕ) → height next S s ≡ k → settled next k s ≡ true → height next S t < height next S s
        go zero e q = absurd (settled_zero next s q)
        go (suc k) e q = let l : height next S t ≤ k = height_least t k (settled_next next k s t q m) in omega arith
