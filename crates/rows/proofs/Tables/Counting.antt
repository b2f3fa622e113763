-- Counting positions that pass a test, and rewriting the first bytes of a table.
use mathlib.Core.Bool.{Bool, true, false}
use mathlib.Core.List.{List, [], ◌∷◌}
use mathlib.Core.Logic.{◌≢◌}
use mathlib.Core.Path.{◌≡◌, refl, sym, ap, ◌∙◌}
use Prim.Native.Nat.{ℕ, zero, suc, ◌+◌, ◌≤◌, ◌<◌}
use native.Mathlib.Nat.{le_of_suc-le-suc, not-suc-le-zero}
use native.Mathlib.Omega.{arith}
use native.Mathlib.Decide.{ℕ_discrete}
use lib.Dec.{eqb}
use lib.ListN.{length}
use borrow.Author.Tests.{ne_eqb, eqb-true, eqb-false}
use Rattle.rows.specs.Tables.{byte_at, count, rewritten}

-- 1 for a passed test
abbrev pub one_if : Bool → ℕ
one_if true = 1
one_if false = 0

pub count_zero : (p : ℕ → Bool) → count 0 p ≡ 0
unfolding count
count_zero p = refl

pub count_suc : (n : ℕ) (p : ℕ → Bool) → count (suc n) p ≡ one_if (p n) + count n p
unfolding count
count_suc n p = go (p n)
  where
    go : (b : Bool) → elim b as (λ x. ℕ) [ true ↦ suc (count n p) | false ↦ count n p ] ≡ one_if b + count n p
    go true = omega arith
    go false = omega arith

-- a test that is the sum of two counts as their sum
pub count_sum : (n : ℕ) (p q r : ℕ → Bool) → ((i : ℕ) → i < n → one_if (p i) + one_if (q i) ≡ one_if (r i)) → count n p + count n q ≡ count n r
count_sum zero p q r h = rw (count_zero p, count_zero q, count_zero r)
count_sum (suc n) p q r h =
    let here : one_if (p n) + one_if (q n) ≡ one_if (r n) = h n (omega arith) in
    let rest : count n p + count n q ≡ count n r = count_sum n p q r (λ i l. h i (omega arith)) in
    omega (arith, count_suc n p, count_suc n q, count_suc n r)

-- the first a positions, and b more
pub count_append : (a b : ℕ) (p : ℕ → Bool) → count (a + b) p ≡ count a p + count b (λ i. p (a + i))
count_append a zero p =
    let same : a + zero ≡ a = omega arith in
    ap (λ (k : ℕ). count k p) same ∙ omega (arith, count_zero (λ i. p (a + i)))
count_append a (suc b) p =
    let next : a + suc b ≡ suc (a + b) = omega arith in
    let last : count (a + suc b) p ≡ one_if (p (a + b)) + count (a + b) p = ap (λ (k : ℕ). count k p) next ∙ count_suc (a + b) p in
    omega (arith, last, count_append a b p, count_suc b (λ i. p (a + i)))

pub count_cong : (n : ℕ) (p q : ℕ → Bool) → ((i : ℕ) → i < n → p i ≡ q i) → count n p ≡ count n q
count_cong zero p q h = count_zero p ∙ sym (count_zero q)
count_cong (suc n) p q h =
    rw (count_suc n p, count_suc n q, h n (omega arith), count_cong n p q (λ i l. h i (omega arith)))

pub count_none : (n : ℕ) (p : ℕ → Bool) → ((i : ℕ) → i < n → p i ≡ false) → count n p ≡ 0
count_none zero p h = count_zero p
count_none (suc n) p h = rw (count_suc n p, h n (omega arith), count_none n p (λ i l. h i (omega arith)))

-- where one of them passes, some are counted
pub count_some : (n : ℕ) (p : ℕ → Bool) (j : ℕ) → j < n → p j ≡ true → count n p ≢ 0
count_some zero p j h e q = absurd (omega arith)
count_some (suc n) p j h e q =
    elim (ℕ_discrete j n) [
      | yes k ↦ omega (arith, q, count_suc n p, ap one_if (ap p (sym k) ∙ e))
      | no k ↦ count_some n p j (omega arith) e (omega (arith, q, count_suc n p))
    ]

pub count_le : (n : ℕ) (p : ℕ → Bool) → count n p ≤ n
count_le zero p = omega (arith, count_zero p)
count_le (suc n) p = go (p n) (count_suc n p) (count_le n p)
  where
    go : (b : Bool) → count (suc n) p ≡ one_if b + count n p → count n p ≤ n → count (suc n) p ≤ suc n
    go true e h = omega arith
    go false e h = omega arith

pub count_one : (n j : ℕ) → j < n → count n (eqb j) ≡ 1
count_one zero j h = absurd (not-suc-le-zero h)
count_one (suc n) j h = go (eqb j n) refl (count_one n j)
  where
    go : (b : Bool) → eqb j n ≡ b → (j < n → count n (eqb j) ≡ 1) → count (suc n) (eqb j) ≡ 1
    go true e rest = rw (count_suc n (eqb j), e, count_none n (eqb j) (λ i l. ne_eqb j i (λ q. omega (arith, eqb-true j n e))))
    go false e rest =
        let apart : j ≢ n = eqb-false j n e in
        rw (count_suc n (eqb j), e, rest (omega arith))

pub rewritten_length : (n : ℕ) (f : ℕ → ℕ → ℕ) (t : List ℕ) → length (rewritten n f t) ≡ length t
unfolding rewritten
rewritten_length zero f t = refl
rewritten_length (suc n) f [] = refl
rewritten_length (suc n) f (b ∷ bs) = ap suc (rewritten_length n (λ i. f (suc i)) bs)

pub rewritten_below : (n : ℕ) (f : ℕ → ℕ → ℕ) (t : List ℕ) (i : ℕ) → i < n → i < length t → byte_at (rewritten n f t) i ≡ f i (byte_at t i)
unfolding rewritten
rewritten_below zero f t i h l = absurd (not-suc-le-zero h)
rewritten_below (suc n) f [] i h l = absurd (not-suc-le-zero l)
rewritten_below (suc n) f (b ∷ bs) zero h l = refl
rewritten_below (suc n) f (b ∷ bs) (suc i) h l = rewritten_below n (λ i. f (suc i)) bs i (le_of_suc-le-suc h) (le_of_suc-le-suc l)

pub rewritten_above : (n : ℕ) (f : ℕ → ℕ → ℕ) (t : List ℕ) (i : ℕ) → n ≤ i → byte_at (rewritten n f t) i ≡ byte_at t i
unfolding rewritten
rewritten_above zero f t i h = refl
rewritten_above (suc n) f [] i h = refl
rewritten_above (suc n) f (b ∷ bs) zero h = absurd (not-suc-le-zero h)
rewritten_above (suc n) f (b ∷ bs) (suc i) h = rewritten_above n (λ i. f (suc i)) bs i (le_of_suc-le-suc h)
