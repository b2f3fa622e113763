-- The pieces of a line: what the code takes of a text is what the reading takes.
use Rattle.std.proofs.Common.{◌≡◌, ℕ, suc, ◌+◌, ◌≤◌, Bool, true, false, cond, List, [], ◌∷◌, length, take, drop, get_or, refl, sym, ap, ◌∙◌, arith}
use borrow.Author.Tests.{ne_eqb, le-leb}
use Rattle.std.specs.List.{prefix_len}
use Rattle.sheet.specs.Bytes.{pick}
use Rattle.text.specs.Numerals.{is_digit}
use Rattle.aut.specs.Scanning.{rest, take_while, drop_while, after_numeral, numeral_of}

-- the bytes at the front that pass, and what comes after them
pub front_passes : (test : ℕ → Bool) (s : List ℕ)
    → (take (prefix_len test s) s ≡ take_while test s) × (drop (prefix_len test s) s ≡ drop_while test s)
unfolding take_while drop_while
front_passes test [] = (refl, refl)
front_passes test (b ∷ s) = go (test b) (front_passes test s)
  where
    n : ℕ
    n = prefix_len test s

    one : 1 + n ≡ suc n
    one = omega arith

    go : (q : Bool) → (take n s ≡ take_while test s) × (drop n s ≡ drop_while test s)
        → (take (cond q (1 + n) 0) (b ∷ s) ≡ pick q (b ∷ take_while test s) [])
        × (drop (cond q (1 + n) 0) (b ∷ s) ≡ pick q (drop_while test s) (b ∷ s))
    go true k = (ap (λ (m : ℕ). take m (b ∷ s)) one ∙ ap (b ∷◌) k.0, ap (λ (m : ℕ). drop m (b ∷ s)) one ∙ k.1)
    go false k = (refl, refl)

-- a number that is not a `0` alone
pub digits_read : (s : List ℕ) (n : ℕ) → 1 ≤ length s → 49 ≤ get_or s 0 0 → get_or s 0 0 ≤ 57 → n ≡ prefix_len is_digit s
    → (take n s ≡ numeral_of (rest s)) × (after_numeral (rest s) ≡ rest (drop n s))
unfolding take_while drop_while
digits_read [] n h l u e = absurd (omega arith)
digits_read (c ∷ s) n h l u e =
    let k = front_passes is_digit (c ∷ s) in
    let z = ne_eqb c 48 (λ q. omega arith) in
    let d = le-leb 48 c (omega arith) in
    let t = le-leb c 57 u in (
      ap (λ (m : ℕ). take m (c ∷ s)) e ∙ k.0 ∙ rw (z, d, t) refl,
      rw (z, d, t) (sym (ap rest (ap (λ (m : ℕ). drop m (c ∷ s)) e ∙ k.1 ∙ rw (d, t) refl))),
    )
