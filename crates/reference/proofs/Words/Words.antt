-- The bits of a word, and the word of a set.
use Prim.Native.Nat.{ℕ, zero, suc, ◌+◌, ◌-◌, ◌/◌, ◌%◌, ◌^◌, ◌<◌, ◌≤◌, min, max}
use mathlib.Core.Path.{◌≡◌, refl, sym, ap, ap₂, ◌∙◌}
use mathlib.Core.Bool.{Bool, true, false, not, ◌&&◌, ◌||◌, false≢true}
use mathlib.Core.Logic.{◌⊎◌, inl, inr}
use native.Mathlib.Omega.{arith}
use native.Mathlib.Nat.{pow-suc, eq-or-lt_of_le, le_of_suc-le-suc, add-zero}
use native.Mathlib.Decide.{ℕ_discrete, dec_lt}
use Rattle.std.proofs.lemmas.Nat.Bits.{bit_at-zero, bit_at-pow_same, bit_at-pow_other, bit_at_ones, bit_at_or, bit_at_and, bit_at_xor, bit_at-lt}
use lib.Dec.{eqb}
use lib.Bits.{bit_and, bit_or, bit_xor}
use borrow.Author.Tests.{eqb-true}
use Rattle.sheet.specs.Bytes.{pick}
use Rattle.calculus.specs.MeetingMask.{bit}
use Rattle.calculus.proofs.Masks.Bits.{bit_high, bit_here, bit_low}
use Rattle.reference.specs.Reference.{word_up_to}

-- ---- each bit of a union, an intersection, a difference from a larger set

digit_or : (x y : ℕ) → x < 2 → y < 2 → eqb (max x y) 1 ≡ (eqb x 1 || eqb y 1)
digit_or zero zero h k = refl
digit_or zero (suc zero) h k = refl
digit_or (suc zero) zero h k = refl
digit_or (suc zero) (suc zero) h k = refl
digit_or zero (suc (suc y)) h k = absurd (omega arith)
digit_or (suc zero) (suc (suc y)) h k = absurd (omega arith)
digit_or (suc (suc x)) y h k = absurd (omega arith)

digit_and : (x y : ℕ) → x < 2 → y < 2 → eqb (min x y) 1 ≡ (eqb x 1 && eqb y 1)
digit_and zero zero h k = refl
digit_and zero (suc zero) h k = refl
digit_and (suc zero) zero h k = refl
digit_and (suc zero) (suc zero) h k = refl
digit_and zero (suc (suc y)) h k = absurd (omega arith)
digit_and (suc zero) (suc (suc y)) h k = absurd (omega arith)
digit_and (suc (suc x)) y h k = absurd (omega arith)

digit_flip : (y : ℕ) → y < 2 → eqb ((1 + y) % 2) 1 ≡ not (eqb y 1)
digit_flip zero k = refl
digit_flip (suc zero) k = refl
digit_flip (suc (suc y)) k = absurd (omega arith)

pub bit_or_lem : (a b t : ℕ) → bit (bit_or a b) t ≡ (bit a t || bit b t)
unfolding bit
bit_or_lem a b t = ap (λ (x : ℕ). eqb x 1) (bit_at_or a b t) ∙ digit_or _ _ (bit_at-lt a t) (bit_at-lt b t)

pub bit_and_lem : (a b t : ℕ) → bit (bit_and a b) t ≡ (bit a t && bit b t)
unfolding bit
bit_and_lem a b t = ap (λ (x : ℕ). eqb x 1) (bit_at_and a b t) ∙ digit_and _ _ (bit_at-lt a t) (bit_at-lt b t)

pub bit_flip : (a b t : ℕ) → bit a t ≡ true → bit (bit_xor a b) t ≡ not (bit b t)
unfolding bit
bit_flip a b t h =
    ap (λ (x : ℕ). eqb x 1) (bit_at_xor a b t) ∙ (ap (λ (x : ℕ). eqb ((x + b / 2 ^ t % 2) % 2) 1) (eqb-true (a / 2 ^ t % 2) 1 h) ∙ digit_flip _ (bit_at-lt b t))

-- ---- single words

pub bit_zero : (t : ℕ) → bit 0 t ≡ false
unfolding bit
bit_zero t = ap (λ (x : ℕ). eqb x 1) (bit_at-zero t)

pub bit_power : (k : ℕ) → bit (2 ^ k) k ≡ true
unfolding bit
bit_power k = ap (λ (x : ℕ). eqb x 1) (bit_at-pow_same k)

pub power_bit : (k t : ℕ) → bit (2 ^ k) t ≡ true → t ≡ k
unfolding bit
power_bit k t h =
    elim (ℕ_discrete t k) [
      | yes e ↦ e
      | no n ↦ absurd (false≢true (sym (ap (λ (x : ℕ). eqb x 1) (bit_at-pow_other k t n)) ∙ h))
    ]

-- 2 ^ S - 1 has each bit below S
pub bit_ones : (S t : ℕ) → t < S → bit (2 ^ S - 1) t ≡ true
unfolding bit
bit_ones S t l = ap (λ (x : ℕ). eqb x 1) (bit_at_ones S t l)

-- ---- the word of a set

pub word_same : (S : ℕ) (U W : ℕ → Bool) → ((t : ℕ) → t < S → U t ≡ W t) → word_up_to S U ≡ word_up_to S W
unfolding word_up_to
word_same zero U W h = refl
word_same (suc k) U W h = ap₂ (λ (w : ℕ) (b : Bool). w + pick b (2 ^ k) 0) (word_same k U W (λ t l. h t (omega arith))) (h k (omega arith))

-- a word with no bit from S on is the sum of its bits
pub word_of_bits : (S w : ℕ) → w < 2 ^ S → w ≡ word_up_to S (bit w)
unfolding word_up_to
word_of_bits zero w l = omega arith
word_of_bits (suc k) w l = go (dec_lt w (2 ^ k)) (word_of_bits k w) (word_of_bits k (w - 2 ^ k))
  where
    go : Dec (w < 2 ^ k) → (w < 2 ^ k → w ≡ word_up_to k (bit w)) → (w - 2 ^ k < 2 ^ k → w - 2 ^ k ≡ word_up_to k (bit (w - 2 ^ k)))
        → w ≡ word_up_to k (bit w) + pick (bit w k) (2 ^ k) 0
    go (yes h) under over =
        under h ∙ (sym (add-zero (word_up_to k (bit w))) ∙ ap (λ (b : Bool). word_up_to k (bit w) + pick b (2 ^ k) 0) (sym (bit_high w k k h (omega arith))))
    go (no h) under over = whole
      where
        m : ℕ
        m = w - 2 ^ k

        small : m < 2 ^ k
        small = omega (arith, pow-suc 2 k)

        is : w ≡ m + 2 ^ k
        is = omega arith

        here : bit w k ≡ true
        here = ap (λ (x : ℕ). bit x k) is ∙ bit_here m k small

        rest : word_up_to k (bit m) ≡ word_up_to k (bit w)
        rest = word_same k (bit m) (bit w) (λ t l. sym (ap (λ (x : ℕ). bit x t) is ∙ bit_low m k t l))

        whole : w ≡ word_up_to k (bit w) + pick (bit w k) (2 ^ k) 0
        whole = is ∙ ap₂ (λ (x : ℕ) (b : Bool). x + pick b (2 ^ k) 0) (over small ∙ rest) (sym here)

word_bound : (S : ℕ) (U : ℕ → Bool) → word_up_to S U < 2 ^ S
unfolding word_up_to
word_bound zero U = omega arith
word_bound (suc k) U = go (U k) (word_bound k U)
  where
    go : (b : Bool) → word_up_to k U < 2 ^ k → word_up_to k U + pick b (2 ^ k) 0 < 2 ^ suc k
    go true h = omega (arith, pow-suc 2 k)
    go false h = omega (arith, pow-suc 2 k)

-- the bits of the word of a set are its members
pub word_bit : (S : ℕ) (U : ℕ → Bool) (t : ℕ) → t < S → bit (word_up_to S U) t ≡ U t
unfolding word_up_to
word_bit zero U t l = absurd (omega arith)
word_bit (suc k) U t l = go (eq-or-lt_of_le (le_of_suc-le-suc l)) (word_bit k U t)
  where
    w : ℕ
    w = word_up_to k U

    here : (b : Bool) → bit (w + pick b (2 ^ k) 0) k ≡ b
    here true = bit_here w k (word_bound k U)
    here false = ap (λ (x : ℕ). bit x k) (add-zero w) ∙ bit_high w k k (word_bound k U) (omega arith)

    under : t < k → (b : Bool) → bit (w + pick b (2 ^ k) 0) t ≡ bit w t
    under h true = bit_low w k t h
    under h false = ap (λ (x : ℕ). bit x t) (add-zero w)

    go : (t ≡ k) ⊎ (t < k) → (t < k → bit w t ≡ U t) → bit (w + pick (U k) (2 ^ k) 0) t ≡ U t
    go (inl q) rec = ap (bit (w + pick (U k) (2 ^ k) 0)) q ∙ (here (U k) ∙ ap U (sym q))
    go (inr h) rec = under h (U k) ∙ rec h

-- and it has no others
pub word_high : (S : ℕ) (U : ℕ → Bool) (t : ℕ) → S ≤ t → bit (word_up_to S U) t ≡ false
word_high S U t h = bit_high (word_up_to S U) S t (word_bound S U) h
