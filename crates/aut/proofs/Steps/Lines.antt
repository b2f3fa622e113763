-- The lines of a text, read one by one.
use Rattle.std.proofs.Common.{◌≡◌, ℕ, zero, suc, ◌+◌, ◌-◌, ◌<◌, ◌≤◌, true, false, List, [], ◌∷◌, length, refl, sym, ap, ◌∙◌, arith}
use Rattle.aut.specs.Scanning.{Rest, failed, rest, after_line, line_of, readable_from, lines_from}
use Rattle.aut.specs.Internal.Passing.{readable, lines}
use Rattle.aut.proofs.Reading.Pieces.{left}
use Rattle.aut.proofs.Reading.Uncounted.{shorter, one_more}

-- more than enough is enough
enough : (x : Rest) (n m : ℕ) → length (left x) ≤ n
    → (readable_from n x ≡ readable_from (n + m) x) × (lines_from n x ≡ lines_from (n + m) x)
enough x n zero h = let e : n + 0 ≡ n = omega arith in (sym (ap (λ (k : ℕ). readable_from k x) e), sym (ap (λ (k : ℕ). lines_from k x) e))
enough x n (suc m) h =
    let e : n + suc m ≡ suc (n + m) = omega arith in
    let k = enough x n m h in
    let o = one_more (n + m) x (omega arith) in (
      k.0 ∙ o.0 ∙ sym (ap (λ (j : ℕ). readable_from j x) e),
      k.1 ∙ o.1 ∙ sym (ap (λ (j : ℕ). lines_from j x) e),
    )

pub counted : (t : List ℕ) (n : ℕ) → length t ≤ n → (readable_from n (rest t) ≡ readable t) × (lines_from n (rest t) ≡ lines t)
counted t n h =
    let e : n ≡ length t + (n - length t) = omega arith in
    let k = enough (rest t) (length t) (n - length t) (omega arith) in
    (ap (λ (j : ℕ). readable_from j (rest t)) e ∙ sym k.0, ap (λ (j : ℕ). lines_from j (rest t)) e ∙ sym k.1)

-- a line, and the lines after it
pub one_line : (r : List ℕ) {t : List ℕ} → 1 ≤ length r → after_line (rest r) ≡ rest t
    → (readable r ≡ readable t) × (lines r ≡ line_of (rest r) ∷ lines t) × (length t < length r)
unfolding readable_from lines_from
one_line [] h e = absurd (omega arith)
one_line (b ∷ s) {t} h e =
    let n : length t ≤ length s = omega (arith, shorter b s, ap (λ (x : Rest). length (left x)) e) in
    let k = counted t (length s) n in (
      ap (readable_from (length s)) e ∙ k.0,
      ap (λ (x : Rest). line_of (rest (b ∷ s)) ∷ lines_from (length s) x) e ∙ ap (line_of (rest (b ∷ s)) ∷◌) k.1,
      omega arith,
    )

pub none_read : (n : ℕ) → readable_from n failed ≡ false
unfolding readable_from
none_read zero = refl
none_read (suc n) = refl

pub not_a_line : (r : List ℕ) → 1 ≤ length r → after_line (rest r) ≡ failed → readable r ≡ false
unfolding readable_from
not_a_line [] h e = absurd (omega arith)
not_a_line (b ∷ s) h e = ap (readable_from (length s)) e ∙ none_read (length s)

pub no_line : (r : List ℕ) → length r ≡ 0 → (readable r ≡ true) × (lines r ≡ [])
unfolding readable_from lines_from
no_line [] h = (refl, refl)
no_line (b ∷ s) h = absurd (omega arith)
