-- What one pass over the nodes of a rule shows of its binders: k of them stand before node n.
use Rattle.std.proofs.Common.{◌≡◌, ℕ, zero, suc, ◌+◌, ◌<◌, ◌≤◌, Bool, true, false, List, sym, refl, ap, ◌∙◌, add-one, arith}
use native.Mathlib.Decide.{dec_lt}
use Rattle.sheet.specs.Rule.{node_count, is_binder, one_if, binders_before, binder_count, binder_node}
use Rattle.sheet.specs.WellFormed.{Binds}
use Rattle.sheet.proofs.Nodes.Binders.{binders_next, binders_rise, binder_node_lem}

module _ (r : List ℕ) where
  pub passed_none : 0 ≡ binders_before r 0
  unfolding binders_before
  passed_none = refl

  module _ (k n : ℕ) (passed : k ≡ binders_before r n) where
    pub passed_other : is_binder r n ≡ false → k ≡ binders_before r (n + 1)
    unfolding binders_before
    passed_other e = rw (add-one n, e) (omega arith)

    -- while a binder is left, so is a node
    pub passed_within : k < binder_count r → n < node_count r
    passed_within h =
        elim (dec_lt n (node_count r)) [
          | yes l ↦ l
          | no l ↦ absurd (omega (arith, binders_rise r (node_count r) n (omega arith)))
        ]

    module _ (l : n < node_count r) (e : is_binder r n ≡ true) where
      pub passed_binder : k + 1 ≡ binders_before r (n + 1)
      passed_binder = rw (add-one n) (ap (λ (x : ℕ). x + 1) passed ∙ sym (binders_next r n e))

      pub binds : Binds r n k
      binds = record { among = l; is_binder_holds = e; numbered = sym passed }

  -- below B there is a binder of each number
  binder_stands : (n k : ℕ) → k < binders_before r n → n ≤ node_count r → (b : ℕ) × Binds r b k
  unfolding binders_before
  binder_stands zero k h l = absurd (omega arith)
  binder_stands (suc n) k h l = go (is_binder r n) refl h (binder_stands n k)
    where
      go : (b : Bool) → is_binder r n ≡ b → k < binders_before r n + one_if b → (k < binders_before r n → n ≤ node_count r → (b : ℕ) × Binds r b k) → (b : ℕ) × Binds r b k
      go false q m rec = rec (omega arith) (omega arith)
      go true q m rec =
          elim (dec_lt k (binders_before r n)) [
            | yes g ↦ rec g (omega arith)
            | no g ↦ (n, record { among = omega arith; is_binder_holds = q; numbered = omega arith })
          ]

  pub binder_below : (k : ℕ) → k < binder_count r → binder_node r k < node_count r
  binder_below k h = let w = binder_stands (node_count r) k h (omega arith) in omega (arith, binder_node_lem r w.0 k w.1, w.1.among)
