-- A node put in front of those that follow it, in a rule body that is made from its front.
use Prim.Native.Nat.{ℕ, suc, ◌+◌, ◌*◌, ◌≤◌}
use mathlib.Core.Path.{◌≡◌, refl, sym, ◌∙◌, ap, ap₂}
use mathlib.Core.List.{List, [], ◌++◌, append_assoc, append-nil}
use native.Mathlib.Omega.{arith}
use lib.ListN.{length, set, take, drop, length-append}
use lib.Seq.{sets, sets-eq, length-sets, take-add, take-append-add, take-append-le, take-take, length-take-le, drop_at}
use Rattle.sheet.specs.declared.Fields.{Fields}
use Rattle.patterns.specs.Internal.Nodes.{with_node}
use Rattle.patterns.proofs.Steps.Copying.{node_bytes}

-- a node is three stores in a row
as_sets : (o : List ℕ) (n : ℕ) (f : Fields) → with_node o n f ≡ sets o (1 + 3 * n) (node_bytes f [])
as_sets o n f =
    let i : 1 + 3 * n + 1 ≡ suc (1 + 3 * n) = omega arith in
    let j : 1 + 3 * n + 2 ≡ suc (suc (1 + 3 * n)) = omega arith in
    ap₂ (λ (a b : ℕ). set (set (set o (1 + 3 * n) f.kind) a f.x) b f.y) i j

pub with_node_length : (o : List ℕ) (n : ℕ) (f : Fields) → length (with_node o n f) ≡ length o
with_node_length o n f = ap length (as_sets o n f) ∙ length-sets o (1 + 3 * n) (node_bytes f [])

-- Of the body made, the front before node n is that of o, and what follows node n is l: with node n put, the three are the front of the body.
module _ (o o₁ : List ℕ) (n : ℕ) (f : Fields) (l : List ℕ) (long : 1 + 3 * suc n + length l ≤ length o₁) (same : length o₁ ≡ length o)
    (h : take (1 + 3 * suc n + length l) o₁ ≡ take (1 + 3 * suc n) o ++ l) where
  front : take (1 + 3 * n) o₁ ≡ take (1 + 3 * n) o
  front =
      sym (take-take (1 + 3 * n) (1 + 3 * suc n + length l) o₁ (omega arith)) ∙ ap (take (1 + 3 * n)) h
      ∙ take-append-le (1 + 3 * n) (take (1 + 3 * suc n) o) l (omega (arith, length-take-le (1 + 3 * suc n) o (omega arith)))
      ∙ take-take (1 + 3 * n) (1 + 3 * suc n) o (omega arith)

  back : take (length l) (drop (1 + 3 * suc n) o₁) ≡ l
  back =
      sym (drop_at (take (1 + 3 * suc n) o₁) (take (length l) (drop (1 + 3 * suc n) o₁)) (1 + 3 * suc n) (length-take-le (1 + 3 * suc n) o₁ (omega arith)))
      ∙ ap (drop (1 + 3 * suc n)) (sym (take-add (1 + 3 * suc n) (length l) o₁) ∙ h)
      ∙ drop_at (take (1 + 3 * suc n) o) l (1 + 3 * suc n) (length-take-le (1 + 3 * suc n) o (omega arith))

  pub node_before : take (1 + 3 * suc n + length l) (with_node o₁ n f) ≡ take (1 + 3 * n) o ++ node_bytes f l
  node_before =
      let after : 1 + 3 * n + 3 ≡ 1 + 3 * suc n = omega arith in
      let long-front : length (take (1 + 3 * n) o₁ ++ node_bytes f []) ≡ 1 + 3 * suc n =
      length-append (take (1 + 3 * n) o₁) (node_bytes f []) ∙ ap (λ (k : ℕ). k + 3) (length-take-le (1 + 3 * n) o₁ (omega arith)) ∙ after in
      ap (take (1 + 3 * suc n + length l)) (as_sets o₁ n f ∙ sets-eq (node_bytes f []) o₁ (1 + 3 * n) (omega arith))
      ∙ ap (λ (k : ℕ). take (k + length l) (take (1 + 3 * n) o₁ ++ node_bytes f [] ++ drop (1 + 3 * n + 3) o₁)) (sym long-front)
      ∙ take-append-add (take (1 + 3 * n) o₁ ++ node_bytes f []) (drop (1 + 3 * n + 3) o₁) (length l)
      ∙ ap₂ (λ (a b : List ℕ). a ++ node_bytes f [] ++ b) front (ap (λ (k : ℕ). take (length l) (drop k o₁)) after ∙ back)
      ∙ append_assoc (take (1 + 3 * n) o) (node_bytes f []) l

-- the same where nothing follows it yet
pub node_last : (o : List ℕ) (n : ℕ) (f : Fields) → 1 + 3 * suc n ≤ length o → take (1 + 3 * suc n) (with_node o n f) ≡ take (1 + 3 * n) o ++ node_bytes f []
node_last o n f long =
    let q : 1 + 3 * suc n + 0 ≡ 1 + 3 * suc n = omega arith in
    ap (λ (k : ℕ). take k (with_node o n f)) (sym q)
    ∙ node_before o o n f [] (omega arith) refl (ap (λ (k : ℕ). take k o) q ∙ sym (append-nil (take (1 + 3 * suc n) o)))
