-- In a guarded rule the formula of every node is guarded.
use Rattle.std.proofs.Common.{◌≡◌, ℕ, suc, ◌<◌, ◌≤◌, Bool, true, false, not, ◌||◌, eqb, ◌⊎◌, List, sym, refl, ap, ◌∙◌, subst, inl, inr, true≢false, arith}
use mathlib.Core.Bool.{and-eq-true_iff}
use native.Mathlib.Decide.{dec_lt}
use borrow.Author.Tests.{lt-leb}
use Rattle.sheet.specs.Rule.{node_count, node_kind, node_x, node_y, binder_node}
use Rattle.sheet.specs.WellFormed.{Subtree, WellFormedRule}
use Rattle.sheet.proofs.Nodes.Subtrees.{subtree_after}
use Rattle.sheet.proofs.Nodes.Binders.{binder_node_lem}
use Rattle.calculus.specs.Formulas.{Formula, false_formula, true_formula, disj, conj, some, every, var, least, greatest}
use Rattle.calculus.specs.Definition2.{guarded_in, guarded}
use Rattle.calculus.specs.Decode.{formula}
use Rattle.calculus.specs.Internal.GuardContracts.{bound_since}
use Rattle.calculus.proofs.Decoding.Nodes.{or_node_holds, and_node_holds, some_node_holds, every_node_holds, least_node_holds, greatest_node_holds}
use Rattle.calculus.proofs.Decoding.Variables.{free_at}
use Rattle.calculus.proofs.Definition2.Since.{guarded_agree}

-- what is guarded with respect to a set is so with respect to a smaller one
pub guarded_less : (φ : Formula) (𝒳 𝒴 : ℕ → Bool) → ((k : ℕ) → 𝒴 k ≡ true → 𝒳 k ≡ true) → guarded_in φ 𝒳 ≡ true → guarded_in φ 𝒴 ≡ true
unfolding guarded_in
guarded_less false_formula 𝒳 𝒴 h g = refl
guarded_less true_formula 𝒳 𝒴 h g = refl
guarded_less (disj φ ψ) 𝒳 𝒴 h g =
    let b = (and-eq-true_iff (guarded_in φ 𝒳) (guarded_in ψ 𝒳)).0 g in
    (and-eq-true_iff (guarded_in φ 𝒴) (guarded_in ψ 𝒴)).1 (guarded_less φ 𝒳 𝒴 h b.0, guarded_less ψ 𝒳 𝒴 h b.1)
guarded_less (conj φ ψ) 𝒳 𝒴 h g =
    let b = (and-eq-true_iff (guarded_in φ 𝒳) (guarded_in ψ 𝒳)).0 g in
    (and-eq-true_iff (guarded_in φ 𝒴) (guarded_in ψ 𝒴)).1 (guarded_less φ 𝒳 𝒴 h b.0, guarded_less ψ 𝒳 𝒴 h b.1)
guarded_less (some α φ) 𝒳 𝒴 h g = g
guarded_less (every α φ) 𝒳 𝒴 h g = g
guarded_less (var X) 𝒳 𝒴 h g = go (𝒴 X) (h X)
  where
    go : (b : Bool) → (b ≡ true → 𝒳 X ≡ true) → not b ≡ true
    go true k = absurd (true≢false (sym g ∙ ap not (k refl)))
    go false k = refl
guarded_less (least X φ) 𝒳 𝒴 h g = guarded_less φ (λ Y. eqb Y X || 𝒳 Y) (λ Y. eqb Y X || 𝒴 Y) (λ Y. go (eqb Y X) Y) g
  where
    go : (b : Bool) (Y : ℕ) → (b || 𝒴 Y) ≡ true → (b || 𝒳 Y) ≡ true
    go true Y q = refl
    go false Y q = h Y q
guarded_less (greatest X φ) 𝒳 𝒴 h g = guarded_less φ (λ Y. eqb Y X || 𝒳 Y) (λ Y. eqb Y X || 𝒴 Y) (λ Y. go (eqb Y X) Y) g
  where
    go : (b : Bool) (Y : ℕ) → (b || 𝒴 Y) ≡ true → (b || 𝒳 Y) ≡ true
    go true Y q = refl
    go false Y q = h Y q

module _ {entries : ℕ} {r : List ℕ} (kept : WellFormedRule entries r) (a : List ℕ) where
  abbrev Guarded : ℕ → Type 0
  Guarded n = guarded_in (formula a r n) (λ Y. false) ≡ true

  -- the formula of node n is guarded with respect to some set
  abbrev Somehow : ℕ → Type 0
  Somehow n = (𝒳 : ℕ → Bool) × (guarded_in (formula a r n) 𝒳 ≡ true)

  named : (n : ℕ) (𝒳 : ℕ → Bool) {φ : Formula} → formula a r n ≡ φ → guarded_in (formula a r n) 𝒳 ≡ true → guarded_in φ 𝒳 ≡ true
  named n 𝒳 q g = subst (λ (φ : Formula). guarded_in φ 𝒳 ≡ true) q g

  pair_guarded : (n : ℕ) → n < node_count r → (node_kind r n ≡ 2) ⊎ (node_kind r n ≡ 3) → Somehow n → Somehow (suc n) × Somehow (node_y r n)
  unfolding guarded_in
  pair_guarded n l (inl q) (𝒳, g) =
      let b = (and-eq-true_iff (guarded_in (formula a r (suc n)) 𝒳) (guarded_in (formula a r (node_y r n)) 𝒳)).0 (named n 𝒳 (or_node_holds kept a n l q) g) in
      ((𝒳, b.0), (𝒳, b.1))
  pair_guarded n l (inr q) (𝒳, g) =
      let b = (and-eq-true_iff (guarded_in (formula a r (suc n)) 𝒳) (guarded_in (formula a r (node_y r n)) 𝒳)).0 (named n 𝒳 (and_node_holds kept a n l q) g) in
      ((𝒳, b.0), (𝒳, b.1))

  modal_guarded : (n : ℕ) → n < node_count r → (node_kind r n ≡ 4) ⊎ (node_kind r n ≡ 5) → Somehow n → Somehow (suc n)
  unfolding guarded_in
  modal_guarded n l (inl q) (𝒳, g) = (λ Y. false, named n 𝒳 (some_node_holds kept a n l q) g)
  modal_guarded n l (inr q) (𝒳, g) = (λ Y. false, named n 𝒳 (every_node_holds kept a n l q) g)

  binder_guarded : (n : ℕ) → n < node_count r → (node_kind r n ≡ 7) ⊎ (node_kind r n ≡ 8) → Somehow n → Somehow (suc n)
  unfolding guarded_in
  binder_guarded n l (inl q) (𝒳, g) = (λ Y. eqb Y (node_x r n) || 𝒳 Y, named n 𝒳 (least_node_holds kept a n l q) g)
  binder_guarded n l (inr q) (𝒳, g) = (λ Y. eqb Y (node_x r n) || 𝒳 Y, named n 𝒳 (greatest_node_holds kept a n l q) g)

  -- node m is n itself, or stands further on
  here_or : (n m : ℕ) → n ≤ m → Somehow n → (suc n ≤ m → Guarded m) → Guarded m
  here_or n m h g later =
      elim (dec_lt n m) [
        | yes j ↦ later j
        | no j ↦ let q : n ≡ m = omega arith in
            guarded_less (formula a r m) g.0 (λ Y. false) (λ k f. absurd (true≢false (sym f))) (subst (λ (i : ℕ). guarded_in (formula a r i) g.0 ≡ true) q g.1)
      ]

  subtree_guarded : {n e : ℕ} → Subtree entries r n e → e ≤ node_count r → Somehow n → (m : ℕ) → n ≤ m → m < e → Guarded m
  subtree_guarded (Subtree.constant {n = n} k x y) w g m h l = here_or n m h g (λ j. absurd (omega arith))
  subtree_guarded (Subtree.variable {n = n} k y) w g m h l = here_or n m h g (λ j. absurd (omega arith))
  subtree_guarded (Subtree.pair {n = n} {m = c} k x p y q) w g m h l =
      let b = pair_guarded n (omega (arith, subtree_after p, subtree_after q)) k g in
      let first = subtree_guarded p (omega (arith, subtree_after q)) b.0 in
      let second = subtree_guarded q w (subst Somehow y b.1) in
      here_or n m h g (λ j. elim (dec_lt m c) [ yes i ↦ first m j i | no i ↦ second m (omega arith) l ])
  subtree_guarded (Subtree.modal {n = n} k x y p) w g m h l =
      here_or n m h g (λ j. subtree_guarded p w (modal_guarded n (omega (arith, subtree_after p)) k g) m j l)
  subtree_guarded (Subtree.binder {n = n} k y p) w g m h l =
      here_or n m h g (λ j. subtree_guarded p w (binder_guarded n (omega (arith, subtree_after p)) k g) m j l)

  -- no variable that is free at node n is bound from n on
  none_since : (n : ℕ) → n < node_count r → guarded_in (formula a r n) (bound_since r n) ≡ guarded_in (formula a r n) (λ Y. false)
  none_since n l =
      guarded_agree (formula a r n) (bound_since r n) (λ Y. false)
      (λ k f. let u = free_at kept a n l k f in lt-leb n (binder_node r k) (omega (arith, binder_node_lem r u.at k u.binds, u.below.after)))

  pub node_guarded : guarded (formula a r 0) ≡ true → (n : ℕ) → n < node_count r → guarded_in (formula a r n) (bound_since r n) ≡ true
  unfolding guarded
  node_guarded g n l = none_since n l ∙ subtree_guarded kept.whole (omega arith) (λ Y. false, g) n (omega arith) l
