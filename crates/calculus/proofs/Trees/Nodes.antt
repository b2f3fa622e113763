-- The nodes of a tree that stands in a rule body: how many binders they are, and what holds of each of them.
use Prim.Native.Nat.{ℕ, suc, ◌+◌, ◌<◌, ◌≤◌}
use mathlib.Core.Path.{◌≡◌, ap, subst}
use mathlib.Core.Bool.{Bool}
use mathlib.Core.List.{List}
use native.Mathlib.Omega.{arith}
use native.Mathlib.Decide.{dec_lt}
use Rattle.sheet.specs.Rule.{node_kind, one_if, is_binder, binders_before}
use Rattle.sheet.proofs.Nodes.Binders.{binders_next}
use Rattle.calculus.specs.Trees.{Tree, binders}
use Rattle.calculus.proofs.Decoding.Variables.{not_binder, is_binder_holds}
use Rattle.calculus.proofs.Trees.Stands.{Stands, flag_small, one_of_two}

-- Q of each node from n up to e
pub record Span (Q : ℕ → Type 0) (n e : ℕ) : Type 0 where
  pub at : (m : ℕ) → n ≤ m → m < e → Q m

pub span_one : {Q : ℕ → Type 0} {n : ℕ} → Q n → Span Q n (suc n)
span_one {Q} {n} h = record { at = λ m l u. let q : n ≡ m = omega arith in subst Q q h }

pub span_both : {Q : ℕ → Type 0} {n m e : ℕ} → Span Q n m → Span Q m e → Span Q n e
span_both {m = m} h k = record { at = λ j l u. elim (dec_lt j m) [ yes q ↦ h.at j l q | no q ↦ k.at j (omega arith) u ] }

pub span_inner : {Q : ℕ → Type 0} {n m e' e : ℕ} → Span Q n e → n ≤ m → e' ≤ e → Span Q m e'
span_inner h g l = record { at = λ j i u. h.at j (omega arith) (omega arith) }

module _ (r : List ℕ) where
  -- a node that is no binder, and one that is
  pub none_next : (n : ℕ) → node_kind r n < 7 → binders_before r (suc n) ≡ binders_before r n
  unfolding binders_before
  none_next n h =
      let i : binders_before r n + one_if (is_binder r n) ≡ binders_before r n + 0 =
      ap (λ (b : Bool). binders_before r n + one_if b) (not_binder r n h) in
      omega arith

  pub one_next : (n : ℕ) (b : Bool) → node_kind r n ≡ 7 + one_if b → binders_before r (suc n) ≡ suc (binders_before r n)
  one_next n b k = omega (arith, binders_next r n (is_binder_holds r n (one_of_two b k)))

  pub stands_binders : {t : Tree} {n e : ℕ} → Stands r t n e → binders_before r e ≡ binders_before r n + binders t
  unfolding binders
  stands_binders (Stands.constant {b = b} {n = n} k x y) = omega (arith, none_next n (omega (arith, flag_small b)))
  stands_binders (Stands.pair {b = b} {n = n} k x y p q) =
      omega (arith, none_next n (omega (arith, flag_small b)), stands_binders p, stands_binders q)
  stands_binders (Stands.modal {b = b} {n = n} k x y p) = omega (arith, none_next n (omega (arith, flag_small b)), stands_binders p)
  stands_binders (Stands.variable {n = n} k x y) = omega (arith, none_next n (omega arith))
  stands_binders (Stands.binder {b = b} {n = n} k x y p) = omega (arith, one_next n b k, stands_binders p)
