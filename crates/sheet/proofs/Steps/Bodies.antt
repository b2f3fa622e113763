-- A body of so many parts of three bytes, made in a buffer from byte 1 on, and put at the front of an output.
use Prim.Native.Nat.{ℕ, suc, ◌+◌, ◌*◌, ◌≤◌}
use mathlib.Core.Path.{◌≡◌, sym, ◌∙◌, ap, ap₂}
use mathlib.Core.List.{List, [], ◌∷◌, ◌++◌}
use native.Mathlib.Omega.{arith}
use lib.ListN.{length, set, take, drop}
use lib.Seq.{length-take-le, take-length}

-- the front of made copied to the front of the output, and then the count put before it
pub body_copied : (made out last : List ℕ) (n k : ℕ) → k ≡ 1 + 3 * n → 1 + 3 * n ≤ length made
    → last ≡ take (length (take k made)) (take k made) ++ drop (length (take k made)) out
    → set last 0 n ≡ (n ∷ drop 1 (take (1 + 3 * n) made)) ++ drop (1 + 3 * n) out
body_copied [] out last n k e l q = absurd (omega arith)
body_copied (x ∷ made) out last n k e l q =
    let front : List ℕ = take (1 + 3 * n) (x ∷ made) in
    let c : take k (x ∷ made) ≡ front = ap (λ (j : ℕ). take j (x ∷ made)) e in
    let i : length front ≡ 1 + 3 * n = length-take-le (1 + 3 * n) (x ∷ made) l in
    let s : 1 + 3 * n ≡ suc (3 * n) = omega arith in
    let headed : front ≡ x ∷ drop 1 front = ap (λ (j : ℕ). take j (x ∷ made)) s ∙ ap (λ (j : ℕ). x ∷ drop 1 (take j (x ∷ made))) (sym s) in
    ap (λ (v : List ℕ). set v 0 n)
    (q ∙ ap (λ (v : List ℕ). take (length v) v ++ drop (length v) out) c ∙ ap₂ (λ (v : List ℕ) (j : ℕ). v ++ drop j out) (take-length front ∙ headed) i)
