-- Bodies whose triples of bytes are given by functions.
use Prim.Native.Nat.{ℕ, zero, suc, ◌+◌, ◌*◌, ◌<◌}
use mathlib.Core.Path.{◌≡◌, refl, ap, ◌∙◌}
use mathlib.Core.List.{List, [], ◌∷◌}
use native.Mathlib.Omega.{arith}
use lib.ListN.{length}
use Rattle.sheet.specs.Bytes.{byte}
use Rattle.sheet.specs.RunningCalls.{AllBytes}
use Rattle.sheet.proofs.Limits.ByteLists.{bytes_nil, bytes_cons}

-- n triples, triple i being f i, g i, h i
unfoldable pub triples : ℕ → (ℕ → ℕ) → (ℕ → ℕ) → (ℕ → ℕ) → List ℕ
triples zero f g h = []
triples (suc n) f g h = f 0 ∷ g 0 ∷ h 0 ∷ triples n (λ i. f (suc i)) (λ i. g (suc i)) (λ i. h (suc i))

pub triples_length : (n : ℕ) (f g h : ℕ → ℕ) → length (triples n f g h) ≡ 3 * n
unfolding triples
triples_length zero f g h = refl
triples_length (suc n) f g h = omega (arith, triples_length n (λ i. f (suc i)) (λ i. g (suc i)) (λ i. h (suc i)))

pub record TripleAt (l : List ℕ) (i x y z : ℕ) : Type 0 where
  pub first : byte l (3 * i) ≡ x
  pub second : byte l (1 + 3 * i) ≡ y
  pub third : byte l (2 + 3 * i) ≡ z

pub triple_at : (n : ℕ) (f g h : ℕ → ℕ) (i : ℕ) → i < n → TripleAt (triples n f g h) i (f i) (g i) (h i)
unfolding triples
triple_at zero f g h i l = absurd (omega arith)
triple_at (suc n) f g h zero l = record { first = refl; second = refl; third = refl }
triple_at (suc n) f g h (suc i) l =
    let rest = triple_at n (λ j. f (suc j)) (λ j. g (suc j)) (λ j. h (suc j)) i (omega arith) in
    let p : 3 * suc i ≡ suc (suc (suc (3 * i))) = omega arith in
    let q : 1 + 3 * suc i ≡ suc (suc (suc (1 + 3 * i))) = omega arith in
    let r : 2 + 3 * suc i ≡ suc (suc (suc (2 + 3 * i))) = omega arith in
    let at = byte (triples (suc n) f g h) in
    record { first = ap at p ∙ rest.first; second = ap at q ∙ rest.second; third = ap at r ∙ rest.third }

pub bytes_triples : (n : ℕ) (f g h : ℕ → ℕ) → ((i : ℕ) → i < n → f i < 256) → ((i : ℕ) → i < n → g i < 256) → ((i : ℕ) → i < n → h i < 256)
    → AllBytes (triples n f g h)
unfolding triples
bytes_triples zero f g h fs gs hs = bytes_nil
bytes_triples (suc n) f g h fs gs hs =
    bytes_cons (fs 0 (omega arith)) (bytes_cons (gs 0 (omega arith)) (bytes_cons (hs 0 (omega arith))
    (bytes_triples n (λ i. f (suc i)) (λ i. g (suc i)) (λ i. h (suc i))
    (λ i l. fs (suc i) (omega arith)) (λ i l. gs (suc i) (omega arith)) (λ i l. hs (suc i) (omega arith)))))
