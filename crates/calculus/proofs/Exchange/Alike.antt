-- Two rules that differ only in which binders are least and which greatest.
use Prim.Native.Nat.{ℕ, ◌<◌}
use mathlib.Core.Path.{◌≡◌, sym, ap, subst, ◌∙◌}
use mathlib.Core.List.{List}
use mathlib.Core.Logic.{◌⊎◌, inl, inr}
use native.Mathlib.Omega.{arith}
use Rattle.sheet.specs.Rule.{node_count, node_kind, node_x, node_y, binder, shape_of, is_binder, binders_before}
use Rattle.sheet.proofs.Nodes.Shapes.{ranged}
use Rattle.calculus.proofs.Exchange.SameShapes.{SameShapes, same_binder, same_before}

abbrev pub Fixpoint : ℕ → Type 0
Fixpoint k = (k ≡ 7) ⊎ (k ≡ 8)

-- one kind, or those of two fixed points
abbrev pub AlikeKinds : ℕ → ℕ → Type 0
AlikeKinds k k' = (k' ≡ k) ⊎ (Fixpoint k × Fixpoint k')

pub record Alike (r r' : List ℕ) : Type 0 where
  pub count : node_count r' ≡ node_count r
  pub xs : (n : ℕ) → node_x r' n ≡ node_x r n
  pub ys : (n : ℕ) → node_y r' n ≡ node_y r n
  pub kinds : (n : ℕ) → AlikeKinds (node_kind r n) (node_kind r' n)

fixpoint_shape : (k : ℕ) → Fixpoint k → shape_of k ≡ binder
fixpoint_shape k (inl q) = ap shape_of q
fixpoint_shape k (inr q) = ap shape_of q

pub alike_kinds_shape : (k k' : ℕ) → AlikeKinds k k' → shape_of k' ≡ shape_of k
alike_kinds_shape k k' (inl q) = ap shape_of q
alike_kinds_shape k k' (inr h) = fixpoint_shape k' h.1 ∙ sym (fixpoint_shape k h.0)

module _ {r r' : List ℕ} (alike : Alike r r') where
  shapes : SameShapes r r'
  shapes = record { count = alike.count; xs = alike.xs; ys = alike.ys; shapes = λ n. alike_kinds_shape _ _ (alike.kinds n) }

  pub alike_binder : (n : ℕ) → is_binder r' n ≡ is_binder r n
  alike_binder = same_binder shapes

  pub alike_before : (n : ℕ) → binders_before r' n ≡ binders_before r n
  alike_before = same_before shapes

  -- a kind that is no fixed point's is the same
  pub alike_low : (n : ℕ) → node_kind r n < 7 → node_kind r' n ≡ node_kind r n
  alike_low n l = go (alike.kinds n)
    where
      go : AlikeKinds (node_kind r n) (node_kind r' n) → node_kind r' n ≡ node_kind r n
      go (inl q) = q
      go (inr h) = absurd (omega (arith, ranged (node_kind r n) 7 h.0))

  pub alike_fixpoint : (n : ℕ) → Fixpoint (node_kind r n) → Fixpoint (node_kind r' n)
  alike_fixpoint n f = go (alike.kinds n)
    where
      go : AlikeKinds (node_kind r n) (node_kind r' n) → Fixpoint (node_kind r' n)
      go (inl q) = subst Fixpoint (sym q) f
      go (inr h) = h.1
