-- The lines with no count: a greater number of lines changes nothing where it was enough.
use Prim.Native.Nat.{ℕ, zero, suc, ◌<◌, ◌≤◌}
use mathlib.Core.Path.{◌≡◌, refl, ap}
use mathlib.Core.Bool.{true, false}
use mathlib.Core.List.{List, [], ◌∷◌}
use native.Mathlib.Omega.{arith}
use lib.ListN.{length, length-append}
use Rattle.aut.specs.Texts.{TransitionLine, ReadsLine, transition_line_rule}
use Rattle.aut.specs.Scanning.{Rest, failed, rest, after_line, line_of, readable_from, lines_from, LinesUncounted}
use Rattle.aut.proofs.Reading.Pieces.{left}
use Rattle.aut.proofs.Reading.Lines.{line_back}

line_long : {w : List ℕ} {x : TransitionLine} → ReadsLine w x → 1 ≤ length w
line_long (transition_line_rule df sg al sh dt) = omega arith

-- a line takes a byte at least
pub shorter : (b : ℕ) (s : List ℕ) → length (left (after_line (rest (b ∷ s)))) ≤ length s
shorter b s = go (after_line (rest (b ∷ s))) refl
  where
    go : (y : Rest) → after_line (rest (b ∷ s)) ≡ y → length (left y) ≤ length s
    go failed e = omega arith
    go (rest t) e =
        let k = line_back (rest (b ∷ s)) e in
        omega (arith, ap (λ (y : Rest). length (left y)) k.1.whole, length-append k.0 t, line_long k.1.is)

all_read : (n : ℕ) → (readable_from n (rest []) ≡ true) × (lines_from n (rest []) ≡ [])
unfolding readable_from lines_from
all_read zero = (refl, refl)
all_read (suc n) = (refl, refl)

none_read : (n : ℕ) → (readable_from n failed ≡ false) × (lines_from n failed ≡ [])
unfolding readable_from lines_from
none_read zero = (refl, refl)
none_read (suc n) = (refl, refl)

-- one more than enough
pub one_more : (n : ℕ) (x : Rest) → length (left x) ≤ n → (readable_from n x ≡ readable_from (suc n) x) × (lines_from n x ≡ lines_from (suc n) x)
unfolding readable_from lines_from
one_more zero failed h = (refl, refl)
one_more zero (rest []) h = (refl, refl)
one_more zero (rest (b ∷ s)) h = absurd (omega arith)
one_more (suc n) failed h = (refl, refl)
one_more (suc n) (rest []) h = (refl, refl)
one_more (suc n) (rest (b ∷ s)) h =
    let k = one_more n (after_line (rest (b ∷ s))) (omega (arith, shorter b s)) in
    (k.0, ap (line_of (rest (b ∷ s)) ∷◌) k.1)

one_line : (n b : ℕ) (s : List ℕ) → length s < n
    → (readable_from n (rest (b ∷ s)) ≡ readable_from n (after_line (rest (b ∷ s))))
    × (lines_from n (rest (b ∷ s)) ≡ line_of (rest (b ∷ s)) ∷ lines_from n (after_line (rest (b ∷ s))))
unfolding readable_from lines_from
one_line zero b s h = absurd (omega arith)
one_line (suc n) b s h =
    let k = one_more n (after_line (rest (b ∷ s))) (omega (arith, shorter b s)) in
    (k.0, ap (line_of (rest (b ∷ s)) ∷◌) k.1)

pub lines_uncounted : LinesUncounted
lines_uncounted = record { all_read = all_read; none_read = none_read; one_line = one_line }
