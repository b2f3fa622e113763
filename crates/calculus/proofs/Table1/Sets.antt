-- Sets of numbers as functions to Bool: inclusion on a region R, counting below a number, and sequences of sets that stop rising.
use Prim.Native.Nat.{ℕ, zero, suc, ◌≤◌, ◌<◌}
use mathlib.Core.Path.{◌≡◌, refl, sym, ◌∙◌, ap, subst}
use mathlib.Core.Bool.{Bool, true, false, not, cond, false≢true}
use mathlib.Core.Logic.{◌⊎◌, inl, inr, ⊎_elim}
use native.Mathlib.Omega.{arith}
use native.Mathlib.Nat.{eq-or-lt_of_le, le_of_suc-le-suc}
use Rattle.calculus.specs.Eval.{empty_set, full_set}

-- On R, U is contained in W.
pub record Within (R : ℕ → Type 0) (U W : ℕ → Bool) : Type 0 where
  pub at : (t : ℕ) → R t → U t ≡ true → W t ≡ true

abbrev pub Below : ℕ → ℕ → Type 0
Below S t = t < S

pub within_refl : {R : ℕ → Type 0} {U : ℕ → Bool} → Within R U U
within_refl = record { at = λ t r u. u }

pub within_trans : {R : ℕ → Type 0} {U W Y : ℕ → Bool} → Within R U W → Within R W Y → Within R U Y
within_trans h k = record { at = λ t r u. k.at t r (h.at t r u) }

pub empty_within : {R : ℕ → Type 0} {U : ℕ → Bool} → Within R empty_set U
empty_within = record { at = λ t r u. absurd (false≢true u) }

pub within_full : {R : ℕ → Type 0} {U : ℕ → Bool} → Within R U full_set
within_full = record { at = λ t r u. refl }

-- The complement turns inclusion round.
abbrev pub complement : (ℕ → Bool) → ℕ → Bool
complement U t = not (U t)

turn : (a b : Bool) → (a ≡ true → b ≡ true) → not b ≡ true → not a ≡ true
turn true b h e = absurd (false≢true (ap not (sym (h refl)) ∙ e))
turn false b h e = refl

turn_back : (a b : Bool) → (not b ≡ true → not a ≡ true) → a ≡ true → b ≡ true
turn_back a true h e = refl
turn_back true false h e = h refl
turn_back false false h e = e

within_complement : {R : ℕ → Type 0} {U W : ℕ → Bool} → Within R U W → Within R (complement W) (complement U)
within_complement {U = U} {W = W} h = record { at = λ t r. turn (U t) (W t) (h.at t r) }

within_uncomplement : {R : ℕ → Type 0} {U W : ℕ → Bool} → Within R (complement W) (complement U) → Within R U W
within_uncomplement {U = U} {W = W} h = record { at = λ t r. turn_back (U t) (W t) (h.at t r) }

-- How many numbers below S are in U.
count : ℕ → (ℕ → Bool) → ℕ
count zero U = 0
count (suc S) U = cond (U S) (suc (count S U)) (count S U)

count_le : (S : ℕ) (U : ℕ → Bool) → count S U ≤ S
unfolding count
count_le zero U = omega arith
count_le (suc S) U = go (U S) (count_le S U)
  where
    go : (b : Bool) → count S U ≤ S → cond b (suc (count S U)) (count S U) ≤ suc S
    go true h = omega arith
    go false h = omega arith

restrict : {S : ℕ} {U W : ℕ → Bool} → Within (Below (suc S)) U W → Within (Below S) U W
restrict h = record { at = λ t r. h.at t (omega arith) }

extend : {S : ℕ} {U W : ℕ → Bool} → Within (Below S) U W → (U S ≡ true → W S ≡ true) → Within (Below (suc S)) U W
extend {S} {U} {W} h k = record { at = λ t r u. go t u (eq-or-lt_of_le (le_of_suc-le-suc r)) }
  where
    go : (t : ℕ) → U t ≡ true → (t ≡ S) ⊎ (t < S) → W t ≡ true
    go t u (inl e) = subst (λ (x : ℕ). W x ≡ true) (sym e) (k (subst (λ (x : ℕ). U x ≡ true) e u))
    go t u (inr l) = h.at t l u

-- A set contained in another is the same below S and has as many members, or it has fewer.
Compared : ℕ → (ℕ → Bool) → (ℕ → Bool) → Type 0
Compared S U W = (Within (Below S) W U × (count S U ≡ count S W)) ⊎ (count S U < count S W)

compare : (S : ℕ) (U W : ℕ → Bool) → Within (Below S) U W → Compared S U W
unfolding count Compared
compare zero U W h = inl (record { at = λ t r. absurd (omega arith) }, refl)
compare (suc S) U W h = go (U S) (W S) refl refl (compare S U W (restrict h))
  where
    go : (a b : Bool) → U S ≡ a → W S ≡ b → Compared S U W
        → (Within (Below (suc S)) W U × (cond a (suc (count S U)) (count S U) ≡ cond b (suc (count S W)) (count S W)))
        ⊎ (cond a (suc (count S U)) (count S U) < cond b (suc (count S W)) (count S W))
    go true true p q (inl w) = inl (extend w.0 (λ _. p), ap suc w.1)
    go true true p q (inr l) = inr (omega arith)
    go true false p q s = absurd (false≢true (sym q ∙ h.at S (omega arith) p))
    go false true p q (inl w) = inr (omega arith)
    go false true p q (inr l) = inr (omega arith)
    go false false p q (inl w) = inl (extend w.0 (λ e. absurd (false≢true (sym q ∙ e))), w.1)
    go false false p q (inr l) = inr l

-- A rising sequence of sets that stays as it is once a step adds nothing has stopped rising after S steps.
pub record Rising (S : ℕ) (seq : ℕ → ℕ → Bool) : Type 0 where
  pub rise : (n : ℕ) → Within (Below S) (seq n) (seq (suc n))
  pub still : (n : ℕ) → Within (Below S) (seq (suc n)) (seq n) → Within (Below S) (seq (suc (suc n))) (seq (suc n))

pub settles : (S : ℕ) (seq : ℕ → ℕ → Bool) → Rising S seq → Within (Below S) (seq (suc S)) (seq S)
unfolding Compared
settles S seq h = last (grows S)
  where
    still? : (n : ℕ) → Compared S (seq n) (seq (suc n))
    still? n = compare S (seq n) (seq (suc n)) (h.rise n)

    grow : (n : ℕ) → n ≤ count S (seq n) → Compared S (seq n) (seq (suc n)) → (suc n ≤ count S (seq (suc n))) ⊎ Within (Below S) (seq (suc (suc n))) (seq (suc n))
    grow n l (inl w) = inr (h.still n w.0)
    grow n l (inr m) = inl (omega arith)

    grows : (n : ℕ) → (n ≤ count S (seq n)) ⊎ Within (Below S) (seq (suc n)) (seq n)
    grows zero = inl (omega arith)
    grows (suc n) = ⊎_elim (λ l. grow n l (still? n)) (λ w. inr (h.still n w)) (grows n)

    full : S ≤ count S (seq S) → Compared S (seq S) (seq (suc S)) → Within (Below S) (seq (suc S)) (seq S)
    full l (inl w) = w.0
    full l (inr m) = absurd (omega (arith, count_le S (seq (suc S))))

    last : (S ≤ count S (seq S)) ⊎ Within (Below S) (seq (suc S)) (seq S) → Within (Below S) (seq (suc S)) (seq S)
    last (inl l) = full l (still? S)
    last (inr w) = w

pub record Falling (S : ℕ) (seq : ℕ → ℕ → Bool) : Type 0 where
  pub fall : (n : ℕ) → Within (Below S) (seq (suc n)) (seq n)
  pub still : (n : ℕ) → Within (Below S) (seq n) (seq (suc n)) → Within (Below S) (seq (suc n)) (seq (suc (suc n)))

pub settles_down : (S : ℕ) (seq : ℕ → ℕ → Bool) → Falling S seq → Within (Below S) (seq S) (seq (suc S))
settles_down S seq h = within_uncomplement (settles S (λ n. complement (seq n)) (record {
  rise = λ n. within_complement (h.fall n);
  still = λ n k. within_complement (h.still n (within_uncomplement k));
}))
