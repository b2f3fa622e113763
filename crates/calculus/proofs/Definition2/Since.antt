-- Definition 2 node by node, with the set of variables given by the node from which on their binders stand.
use Prim.Native.Nat.{ℕ, suc, ◌<◌, ◌≤◌}
use mathlib.Core.Path.{◌≡◌, refl, sym, ap, ap₂, ◌∙◌}
use mathlib.Core.Bool.{Bool, true, false, not, ◌&&◌, ◌||◌, and-eq-true_iff, false≢true}
use mathlib.Core.List.{List}
use mathlib.Core.Logic.{inl, inr}
use native.Mathlib.Omega.{arith}
use native.Mathlib.Decide.{ℕ_discrete, dec_lt}
use lib.Dec.{eqb, leb, ltb}
use borrow.Author.Tests.{le-leb, lt-leb, lt-ltb, le-ltb, eq-eqb, eqb-true}
use Rattle.sheet.specs.Rule.{node_count, node_kind, node_x, node_y, is_binder, binder_node}
use Rattle.sheet.specs.WellFormed.{Binds, WellFormedRule}
use Rattle.sheet.proofs.Nodes.Binders.{binder_node_lem}
use Rattle.calculus.specs.Formulas.{Formula, false_formula, true_formula, disj, conj, some, every, var, least, greatest}
use Rattle.calculus.specs.Definition2.{guarded_in, guarded}
use Rattle.calculus.specs.Decode.{formula}
use Rattle.calculus.specs.Internal.GuardContracts.{bound_since}
use Rattle.calculus.proofs.Table1.Modal.{or-true}
use Rattle.calculus.proofs.Table1.Monotone.{free}
use Rattle.calculus.proofs.Decoding.Nodes.{false_node_holds, true_node_holds, or_node_holds, and_node_holds, some_node_holds, every_node_holds, variable_node_holds, least_node_holds, greatest_node_holds}
use Rattle.calculus.proofs.Decoding.Variables.{not_binder, is_binder_holds, above_next, free_at, closed}

-- sets that agree on what is free beside X agree, with X, on what is free
agree_with : (X : ℕ) (φ : Formula) (𝒳 𝒴 : ℕ → Bool) → ((k : ℕ) → (free k φ && not (eqb k X)) ≡ true → 𝒳 k ≡ 𝒴 k)
    → (k : ℕ) → free k φ ≡ true → (eqb k X || 𝒳 k) ≡ (eqb k X || 𝒴 k)
agree_with X φ 𝒳 𝒴 h k f = go (eqb k X) refl
  where
    go : (b : Bool) → eqb k X ≡ b → (b || 𝒳 k) ≡ (b || 𝒴 k)
    go true q = refl
    go false q = h k ((and-eq-true_iff (free k φ) (not (eqb k X))).1 (f, ap not q))

-- guardedness depends only on the free variables of the set
pub guarded_agree : (φ : Formula) (𝒳 𝒴 : ℕ → Bool) → ((k : ℕ) → free k φ ≡ true → 𝒳 k ≡ 𝒴 k) → guarded_in φ 𝒳 ≡ guarded_in φ 𝒴
unfolding guarded_in free
guarded_agree false_formula 𝒳 𝒴 h = refl
guarded_agree true_formula 𝒳 𝒴 h = refl
guarded_agree (disj φ ψ) 𝒳 𝒴 h =
    ap₂ ◌&&◌ (guarded_agree φ 𝒳 𝒴 (λ k f. h k ((or-true (free k φ) (free k ψ)).1 (inl f))))
    (guarded_agree ψ 𝒳 𝒴 (λ k f. h k ((or-true (free k φ) (free k ψ)).1 (inr f))))
guarded_agree (conj φ ψ) 𝒳 𝒴 h =
    ap₂ ◌&&◌ (guarded_agree φ 𝒳 𝒴 (λ k f. h k ((or-true (free k φ) (free k ψ)).1 (inl f))))
    (guarded_agree ψ 𝒳 𝒴 (λ k f. h k ((or-true (free k φ) (free k ψ)).1 (inr f))))
guarded_agree (some α φ) 𝒳 𝒴 h = refl
guarded_agree (every α φ) 𝒳 𝒴 h = refl
guarded_agree (var X) 𝒳 𝒴 h = ap not (h X (eq-eqb X X refl))
guarded_agree (least X φ) 𝒳 𝒴 h = guarded_agree φ (λ Y. eqb Y X || 𝒳 Y) (λ Y. eqb Y X || 𝒴 Y) (agree_with X φ 𝒳 𝒴 h)
guarded_agree (greatest X φ) 𝒳 𝒴 h = guarded_agree φ (λ Y. eqb Y X || 𝒳 Y) (λ Y. eqb Y X || 𝒴 Y) (agree_with X φ 𝒳 𝒴 h)

not_leb : (a b : ℕ) → ltb b a ≡ not (leb a b)
not_leb a b = elim (dec_lt b a) [ yes l ↦ lt-ltb b a l ∙ ap not (sym (lt-leb a b l)) | no l ↦ le-ltb b a (omega arith) ∙ ap not (sym (le-leb a b (omega arith))) ]

module _ {entries : ℕ} {r : List ℕ} (kept : WellFormedRule entries r) (a : List ℕ) (n first : ℕ) (l : n < node_count r) where
  -- below a modality at node n no variable that occurs has its binder from n on
  emptied : is_binder r n ≡ false → suc n < node_count r → guarded_in (formula a r (suc n)) (bound_since r n) ≡ guarded_in (formula a r (suc n)) (λ Y. false)
  emptied b m = guarded_agree (formula a r (suc n)) (bound_since r n) (λ Y. false) before
    where
      before : (k : ℕ) → free k (formula a r (suc n)) ≡ true → bound_since r n k ≡ false
      before k f =
          let u = above_next n b (free_at kept a (suc n) m k f) in
          lt-leb n (binder_node r k) (omega (arith, binder_node_lem r u.at k u.binds, u.below.after))

  -- a binder at node n is one of those from first on
  joined : is_binder r n ≡ true → first ≤ n → guarded_in (formula a r (suc n)) (λ Y. eqb Y (node_x r n) || bound_since r first Y) ≡ guarded_in (formula a r (suc n)) (bound_since r first)
  joined b h = guarded_agree (formula a r (suc n)) (λ Y. eqb Y (node_x r n) || bound_since r first Y) (bound_since r first) (λ k f. go k (eqb k (node_x r n)) refl)
    where
      own : Binds r n (node_x r n)
      own = record { among = l; is_binder_holds = b; numbered = sym (kept.binder_numbers n l b) }

      go : (k : ℕ) (t : Bool) → eqb k (node_x r n) ≡ t → (t || bound_since r first k) ≡ bound_since r first k
      go k true q =
          let p = eqb-true k (node_x r n) q in
          sym (le-leb first (binder_node r k) (omega (arith, ap (binder_node r) p, binder_node_lem r n (node_x r n) own)))
      go k false q = refl

  as_formula : (φ : Formula) → formula a r n ≡ φ → (b : Bool) → b ≡ guarded_in φ (bound_since r first) → b ≡ guarded_in (formula a r n) (bound_since r first)
  as_formula φ q b h = h ∙ ap (λ (ψ : Formula). guarded_in ψ (bound_since r first)) (sym q)

  pub at_constant : node_kind r n < 2 → true ≡ guarded_in (formula a r n) (bound_since r first)
  unfolding guarded_in
  at_constant h =
      elim (ℕ_discrete (node_kind r n) 0) [
        | yes q ↦ as_formula false_formula (false_node_holds kept a n l q) true refl
        | no q ↦ as_formula true_formula (true_node_holds kept a n l (omega arith)) true refl
      ]

  pub at_pair : 2 ≤ node_kind r n → node_kind r n < 4 → (b : Bool) → b ≡ (guarded_in (formula a r (suc n)) (bound_since r first) && guarded_in (formula a r (node_y r n)) (bound_since r first))
      → b ≡ guarded_in (formula a r n) (bound_since r first)
  unfolding guarded_in
  at_pair h g b e =
      elim (ℕ_discrete (node_kind r n) 2) [
        | yes q ↦ as_formula _ (or_node_holds kept a n l q) b e
        | no q ↦ as_formula _ (and_node_holds kept a n l (omega arith)) b e
      ]

  pub at_modal : 4 ≤ node_kind r n → node_kind r n < 6 → suc n < node_count r → (b : Bool) → b ≡ guarded_in (formula a r (suc n)) (bound_since r n)
      → b ≡ guarded_in (formula a r n) (bound_since r first)
  unfolding guarded_in
  at_modal h g m b e =
      let d : b ≡ guarded_in (formula a r (suc n)) (λ Y. false) = e ∙ emptied (not_binder r n (omega arith)) m in
      elim (ℕ_discrete (node_kind r n) 4) [
        | yes q ↦ as_formula _ (some_node_holds kept a n l q) b d
        | no q ↦ as_formula _ (every_node_holds kept a n l (omega arith)) b d
      ]

  pub at_variable : node_kind r n ≡ 6 → ltb (binder_node r (node_x r n)) first ≡ guarded_in (formula a r n) (bound_since r first)
  unfolding guarded_in
  at_variable q = as_formula _ (variable_node_holds kept a n l q) _ (not_leb first (binder_node r (node_x r n)))

  pub at_binder : 7 ≤ node_kind r n → node_kind r n < 9 → first ≤ n → (b : Bool) → b ≡ guarded_in (formula a r (suc n)) (bound_since r first)
      → b ≡ guarded_in (formula a r n) (bound_since r first)
  unfolding guarded_in
  at_binder h g f b e =
      elim (ℕ_discrete (node_kind r n) 7) [
        | yes q ↦ as_formula _ (least_node_holds kept a n l q) b (e ∙ sym (joined (is_binder_holds r n (inl q)) f))
        | no q ↦ let p : node_kind r n ≡ 8 = omega arith in as_formula _ (greatest_node_holds kept a n l p) b (e ∙ sym (joined (is_binder_holds r n (inr p)) f))
      ]

-- the whole rule, of which no variable is free
pub since_root : {entries : ℕ} {r : List ℕ} → WellFormedRule entries r → (a : List ℕ) → guarded_in (formula a r 0) (bound_since r 0) ≡ guarded (formula a r 0)
unfolding guarded
since_root {r = r} kept a = guarded_agree (formula a r 0) (bound_since r 0) (λ Y. false) (λ k f. absurd (false≢true (sym (closed kept a k) ∙ f)))
