-- A tree of at most 64 nodes and 6 binders that keeps what a rule must keep is the tree of a well-formed rule body.
use Prim.Native.Nat.{ℕ, suc, ◌<◌, ◌≤◌}
use mathlib.Core.Path.{◌≡◌, refl, sym, ◌∙◌, subst}
use mathlib.Core.Bool.{true, false≢true}
use mathlib.Core.List.{List}
use mathlib.Core.Logic.{inl, inr}
use native.Mathlib.Omega.{arith}
use native.Mathlib.Decide.{ℕ_discrete}
use Rattle.sheet.specs.Rule.{node_count, node_kind, node_x, is_binder, binders_before}
use Rattle.sheet.specs.WellFormed.{Subtree, Binds, Bound, WellFormedRule}
use Rattle.calculus.specs.Trees.{Tree, tree_size, binders, encode}
use Rattle.calculus.proofs.Decoding.Variables.{not_binder, is_binder_holds}
use Rattle.calculus.proofs.Trees.Stands.{Stands, flag_small, one_of_two, size_some, stands_end}
use Rattle.calculus.proofs.Trees.Encoding.{nodes_length, encode_stands}
use Rattle.calculus.proofs.Trees.Conditions.{TreeEntriesBelow, InOrder, FreeIn}
use Rattle.calculus.proofs.Trees.Nodes.{Span, span_one, span_both, none_next, one_next, stands_binders}

module _ (entries : ℕ) (r : List ℕ) where
  stands_subtree : {t : Tree} {n e : ℕ} → Stands r t n e → TreeEntriesBelow entries t → Subtree entries r n e
  unfolding TreeEntriesBelow
  stands_subtree (Stands.constant {b = b} {n = n} k x y) h = Subtree.constant {n = n} (omega (arith, flag_small b)) x y
  stands_subtree (Stands.pair {b = b} k x y p q) h =
      Subtree.pair (one_of_two b k) x (stands_subtree p h.0) y (stands_subtree q h.1)
  stands_subtree (Stands.modal {b = b} {n = n} k x y p) h =
      Subtree.modal {n = n} (one_of_two b k) (omega (arith, h.0)) y (stands_subtree p h.1)
  stands_subtree (Stands.variable k x y) h = Subtree.variable k y
  stands_subtree (Stands.binder {b = b} k x y p) h = Subtree.binder (one_of_two b k) y (stands_subtree p h)

  -- ---- numbers of binders

  abbrev Numbered : ℕ → Type 0
  Numbered m = is_binder r m ≡ true → node_x r m ≡ binders_before r m

  no_binder : (n : ℕ) → node_kind r n < 7 → Numbered n
  no_binder n h i = absurd (false≢true (sym (not_binder r n h) ∙ i))

  stands_numbers : {t : Tree} {n e : ℕ} → Stands r t n e → InOrder (binders_before r n) t → Span Numbered n e
  unfolding InOrder
  stands_numbers (Stands.constant {b = b} k x y) h = span_one (no_binder _ (omega (arith, flag_small b)))
  stands_numbers (Stands.pair {b = b} {l = l} {t = t} {n = n} k x y p q) h =
      let i = none_next r n (omega (arith, flag_small b)) in
      let j = stands_binders r p in
      span_both (span_one (no_binder n (omega (arith, flag_small b))))
      (span_both
      (stands_numbers p (subst (λ (c : ℕ). InOrder c l) (sym i) h.0))
      (stands_numbers q (subst (λ (c : ℕ). InOrder c t) (omega arith) h.1)))
  stands_numbers (Stands.modal {b = b} {t = t} {n = n} k x y p) h =
      let i = none_next r n (omega (arith, flag_small b)) in
      span_both (span_one (no_binder n (omega (arith, flag_small b))))
      (stands_numbers p (subst (λ (c : ℕ). InOrder c t) (sym i) h))
  stands_numbers (Stands.variable k x y) h = span_one (no_binder _ (omega arith))
  stands_numbers (Stands.binder {b = b} {t = t} {n = n} k x y p) h =
      span_both (span_one (λ _. x ∙ h.0)) (stands_numbers p (subst (λ (c : ℕ). InOrder c t) (sym (one_next r n b k)) h.1))

  -- ---- binders of variables

  -- the binder of a variable, before node n, whose subtree has the nodes from n up to e
  record Scope (n e X : ℕ) : Type 0 where
    at : ℕ
    binds : Binds r at X
    end : ℕ
    whole : Subtree entries r at end
    after : at < n
    inside : e ≤ end

  narrow : {n e n' e' X : ℕ} → Scope n e X → n ≤ n' → e' ≤ e → Scope n' e' X
  narrow s h g = record {
    at = s.at;
    binds = s.binds;
    end = s.end;
    whole = s.whole;
    after = omega (arith, s.after);
    inside = omega (arith, s.inside);
  }

  abbrev IsBound : ℕ → Type 0
  IsBound m = node_kind r m ≡ 6 → Bound entries r m

  stands_bound : {t : Tree} {n e : ℕ} → Stands r t n e → TreeEntriesBelow entries t → InOrder (binders_before r n) t → e ≤ node_count r
      → ((X : ℕ) → FreeIn X t → Scope n e X) → Span IsBound n e
  unfolding TreeEntriesBelow InOrder FreeIn
  stands_bound (Stands.constant {b = b} k x y) a o c s = span_one (λ i. absurd (omega (arith, flag_small b)))
  stands_bound (Stands.pair {b = b} {l = l} {t = t} {n = n} k x y p q) a o c s =
      let i = none_next r n (omega (arith, flag_small b)) in
      let j = stands_binders r p in
      let u = stands_end p in
      let v = stands_end q in
      span_both (span_one (λ g. absurd (omega (arith, flag_small b))))
      (span_both
      (stands_bound p a.0 (subst (λ (c : ℕ). InOrder c l) (sym i) o.0) (omega arith)
      (λ X f. narrow (s X (inl f)) (omega arith) (omega arith)))
      (stands_bound q a.1 (subst (λ (c : ℕ). InOrder c t) (omega arith) o.1) c
      (λ X f. narrow (s X (inr f)) (omega arith) (omega arith))))
  stands_bound (Stands.modal {b = b} {t = t} {n = n} k x y p) a o c s =
      let i = none_next r n (omega (arith, flag_small b)) in
      span_both (span_one (λ g. absurd (omega (arith, flag_small b))))
      (stands_bound p a.1 (subst (λ (c : ℕ). InOrder c t) (sym i) o) c (λ X f. narrow (s X f) (omega arith) (omega arith)))
  stands_bound (Stands.variable {n = n} {x = X} k x y) a o c s =
      let g = s X refl in
      span_one (λ i. record {
        at = g.at;
        binds = subst (Binds r g.at) (sym x) g.binds;
        below = record { end = g.end; whole = g.whole; after = g.after; inside = g.inside };
      })
  stands_bound (Stands.binder {b = b} {t = t} {n = n} {e = e} {x = X} k x y p) a o c s =
      let i = one_next r n b k in
      let u = stands_end p in
      let g : Scope (suc n) e X = record {
        at = n;
        binds = record { among = omega arith; is_binder_holds = is_binder_holds r n (one_of_two b k); numbered = sym o.0 };
        end = e;
        whole = Subtree.binder (one_of_two b k) y (stands_subtree p a);
        after = omega arith;
        inside = omega arith;
      } in
      span_both (span_one (λ j. absurd (omega (arith, flag_small b))))
      (stands_bound p a (subst (λ (c : ℕ). InOrder c t) (sym i) o.1) c
      (λ Y f.
      elim (ℕ_discrete Y X) [
        | yes q ↦ subst (Scope (suc n) e) (sym q) g
        | no q ↦ narrow (s Y (f, q)) (omega arith) (omega arith)
      ]))

pub encode_well_formed : {entries : ℕ} (t : Tree) → tree_size t ≤ 64 → binders t ≤ 6 → TreeEntriesBelow entries t → InOrder 0 t
    → ((X : ℕ) → FreeIn X t → ⊥) → WellFormedRule entries (encode t)
unfolding encode binders_before
encode_well_formed {entries} t h g a o c =
    let p = encode_stands t in
    record {
      headed = omega arith;
      some_nodes = size_some t;
      few_nodes = h;
      exact = omega (arith, nodes_length 0 t);
      whole = stands_subtree entries (encode t) p a;
      binder_numbers = λ n l. (stands_numbers entries (encode t) p o).at n (omega arith) l;
      few_binders = omega (arith, stands_binders (encode t) p);
      bound = λ n l. (stands_bound entries (encode t) p a o (omega arith) (λ X f. absurd (c X f))).at n (omega arith) l;
    }
