-- What a test or a check that passed says, and how one comes to pass.
use Prim.Native.Nat.{ℕ, ◌<◌}
use mathlib.Core.Path.{◌≡◌, refl, ap}
use mathlib.Core.Bool.{Bool, true, false, ◌&&◌, ◌||◌, false≢true}
use mathlib.Core.Logic.{◌↔◌, ◌⊎◌, inl, inr}
use native.Mathlib.Omega.{arith}
use lib.Dec.{eqb}
use borrow.Author.Tests.{eqb-true, eqb-false, eq-eqb}
use Rattle.sheet.specs.Bytes.{lowest}
use Rattle.sheet.specs.Refusals.{require, and_then}
use Rattle.sheet.specs.declared.Refusal.{Refusal}
use Rattle.std.specs.Prelude.{Err, Ok}
use Rattle.sheet.specs.Refusals.{Check}
use Rattle.sheet.proofs.Checks.Lowest.{lowest_bound, lowest_below, lowest_found, lowest_none}

pub and_parts : (a b : Bool) → (a && b) ≡ true → (a ≡ true) × (b ≡ true)
and_parts true b e = (refl, e)
and_parts false b e = absurd (false≢true e)

pub and_parts₃ : (a b c : Bool) → (a && (b && c)) ≡ true → (a ≡ true) × (b ≡ true) × (c ≡ true)
and_parts₃ a b c e =
    let p = and_parts a (b && c) e in
    let q = and_parts b c p.1 in
    (p.0, q.0, q.1)

pub and_parts₄ : (a b c d : Bool) → (a && (b && (c && d))) ≡ true → (a ≡ true) × (b ≡ true) × (c ≡ true) × (d ≡ true)
and_parts₄ a b c d e =
    let p = and_parts a (b && (c && d)) e in
    let q = and_parts₃ b c d p.1 in
    (p.0, q.0, q.1, q.2)

pub and_parts₅ : (a b c d e : Bool) → (a && (b && (c && (d && e)))) ≡ true → (a ≡ true) × (b ≡ true) × (c ≡ true) × (d ≡ true) × (e ≡ true)
and_parts₅ a b c d e f =
    let p = and_parts a (b && (c && (d && e))) f in
    let q = and_parts₄ b c d e p.1 in
    (p.0, q.0, q.1, q.2, q.3)

pub all : (a b : Bool) → a ≡ true → b ≡ true → (a && b) ≡ true
all a b p q = rw p q

pub either : (a b : Bool) → (a || b) ≡ true → (a ≡ true) ⊎ (b ≡ true)
either true b e = inl refl
either false b e = inr e

pub right : (a b : Bool) → b ≡ true → (a || b) ≡ true
right true b q = refl
right false b q = q

pub passed_then : (c d : Check) → and_then c d ≡ Ok tt → (c ≡ Ok tt) × (d ≡ Ok tt)
passed_then (Ok tt) d e = (refl, e)
passed_then (Err r) d e = let z : ◌≡◌ {A = ℕ} 0 1 = cc in absurd (omega arith)

pub then_passed : (c d : Check) → c ≡ Ok tt → d ≡ Ok tt → and_then c d ≡ Ok tt
then_passed c d p q = rw p q

pub passed_require : (b : Bool) (r : Refusal) → require b r ≡ Ok tt → b ≡ true
passed_require true r e = refl
passed_require false r e = let z : ◌≡◌ {A = ℕ} 0 1 = cc in absurd (omega arith)

pub require_passed : (b : Bool) (r : Refusal) → b ≡ true → require b r ≡ Ok tt
require_passed b r e = rw e

-- no number below n is found exactly where the test holds at none
pub none_found : (test : ℕ → Bool) (n : ℕ) → (eqb (lowest test n) n ≡ true) ↔ ((k : ℕ) → k < n → test k ≡ false)
none_found test n = (
  λ e k h. lowest_below test n k (let q : lowest test n ≡ n = eqb-true _ _ e in omega arith),
  λ none. eq-eqb (lowest test n) n (lowest_none test n none),
)

-- a search that does not end at n found a number below it
pub one_found : (test : ℕ → Bool) (n : ℕ) → eqb (lowest test n) n ≡ false → (i : ℕ) × (i < n) × (test i ≡ true)
one_found test n h =
    let apart : lowest test n ≡ n → ⊥ = eqb-false (lowest test n) n h in
    let l : lowest test n < n = omega (arith, lowest_bound test n) in
    (lowest test n, l, lowest_found test n l)

-- an answer that is right is reported right
pub with_report : {A R : Type 0} (report : A → R) {x y : A} → x ≡ y → (x ≡ y) × (report x ≡ report y)
with_report report e = (e, ap report e)
