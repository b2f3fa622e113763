-- The reader's walk over the nodes finds the end of a subtree exactly where the nodes are one.
use Prim.Native.Nat.{ℕ, zero, suc, ◌+◌, ◌<◌, ◌≤◌}
use mathlib.Core.Path.{◌≡◌, refl, sym, ap, subst, ◌∙◌}
use mathlib.Core.Bool.{Bool, true, false, ◌&&◌}
use mathlib.Core.List.{List}
use native.Mathlib.Omega.{arith}
use native.Mathlib.Numerals.{add-one}
use lib.Dec.{eqb, ltb}
use borrow.Author.Tests.{lt-ltb, eq-eqb, ltb-true, eqb-true}
use Rattle.sheet.specs.Bytes.{pick}
use Rattle.sheet.specs.Rule.{node_count, node_kind, node_x, node_y, Shape, shape_of, leaf, pair, modal, variable, binder, unknown, child_is, fault_at, second, course, extent}
use Rattle.sheet.specs.WellFormed.{Subtree}
use Rattle.sheet.specs.Internal.Subtrees.{Bounded}
use Rattle.std.specs.Prelude.{Err, Ok}
use Rattle.sheet.specs.Rule.{Extent}
use Rattle.sheet.proofs.Checks.Checks.{and_parts, all}
use Rattle.sheet.proofs.Nodes.Shapes.{shape_leaf, shape_pair, shape_modal, shape_variable, shape_binder, shape_unknown, ranged, one_of, kinds}
use Rattle.sheet.proofs.Nodes.Subtrees.{subtree_after}

pub child : (r : List ℕ) (c place : ℕ) → child_is r c place ≡ true → (c ≡ place) × (place < node_count r)
child r c place q =
    let b = and_parts (eqb c place) (ltb place (node_count r)) q in
    (eqb-true c place b.0, ltb-true place (node_count r) b.1)

pub is_child : (r : List ℕ) (c place : ℕ) → c ≡ place → place < node_count r → child_is r c place ≡ true
is_child r c place q h = all (eqb c place) (ltb place (node_count r)) (eq-eqb c place q) (lt-ltb place (node_count r) h)

ends_inj : {a b : ℕ} → ◌≡◌ {A = Extent} (Ok a) (Ok b) → a ≡ b
ends_inj {a} {b} q = cc

picked : (b : Bool) (x : Extent) (n e : ℕ) → pick b x (fault_at n) ≡ Ok e → (b ≡ true) × (x ≡ Ok e)
picked true x n e q = (refl, q)
picked false x n e q = let z : ◌≡◌ {A = ℕ} 0 1 = cc in absurd (omega arith)

seconded : (go : ℕ → Extent) (r : List ℕ) (n e : ℕ) (x : Extent) → second go r n x ≡ Ok e
    → (m : ℕ) × (x ≡ Ok m) × (node_y r n ≡ m) × (m < node_count r) × (go m ≡ Ok e)
seconded go r n e (Err m) q = let z : ◌≡◌ {A = ℕ} 0 1 = cc in absurd (omega arith)
seconded go r n e (Ok m) q =
    let p = picked (child_is r (node_y r n) m) (go m) n e q in
    let c = child r (node_y r n) m p.0 in
    (m, refl, c.0, c.1, p.1)

pub taken : (b : Bool) (x y : Extent) → b ≡ true → pick b x y ≡ x
taken b x y q = rw q

module _ (entries : ℕ) (r : List ℕ) where
  pub extent_suc : (depth n : ℕ) (s : Shape) → shape_of (node_kind r n) ≡ s → extent (suc depth) entries r n ≡ course (extent depth entries r) entries r n s
  unfolding extent
  extent_suc depth n s q = rw q

  ended : (depth n e : ℕ) (s : Shape) → extent (suc depth) entries r n ≡ Ok e → shape_of (node_kind r n) ≡ s → course (extent depth entries r) entries r n s ≡ Ok e
  ended depth n e s q p = sym (extent_suc depth n s p) ∙ q

  next : (n : ℕ) {e : ℕ} → Subtree entries r (n + 1) e → Subtree entries r (suc n) e
  next n {e} p = subst (λ (i : ℕ). Subtree entries r i e) (add-one n) p

  -- an end that is found is the end of the node's subtree, and within the rule
  pub extent_subtree : (depth n e : ℕ) → extent depth entries r n ≡ Ok e → Subtree entries r n e × (n < node_count r → e ≤ node_count r)
  unfolding extent
  extent_subtree zero n e q = let z : ◌≡◌ {A = ℕ} 0 1 = cc in absurd (omega arith)
  extent_subtree (suc depth) n e q =
      let Found : Type 0 = Subtree entries r n e × (n < node_count r → e ≤ node_count r) in
      let last : Subtree entries r n (suc n) → Ok (n + 1) ≡ Ok e → Found =
      λ p g. (subst (Subtree entries r n) (sym (add-one n) ∙ ends_inj g) p, λ h. omega (arith, ends_inj g)) in
      kinds (node_kind r n)
      (λ h.
      let p = picked (eqb (node_x r n) 0 && eqb (node_y r n) 0) (Ok (n + 1)) n e (ended depth n e leaf q (shape_leaf (node_kind r n) h)) in
      let b = and_parts (eqb (node_x r n) 0) (eqb (node_y r n) 0) p.0 in
      last (Subtree.constant (omega arith) (eqb-true (node_x r n) 0 b.0) (eqb-true (node_y r n) 0 b.1)) p.1)
      (λ h l.
      let p = picked (child_is r (node_x r n) (n + 1)) (second (extent depth entries r) r n (extent depth entries r (n + 1))) n e (ended depth n e pair q (shape_pair (node_kind r n) h l)) in
      let c = child r (node_x r n) (n + 1) p.0 in
      let s = seconded (extent depth entries r) r n e (extent depth entries r (n + 1)) p.1 in
      let f = extent_subtree depth (n + 1) s.0 s.1 in
      let g = extent_subtree depth s.0 e s.4 in
      (Subtree.pair (one_of (node_kind r n) 2 h l) (c.0 ∙ add-one n) (next n f.0) s.2 g.0, λ i. g.1 s.3))
      (λ h l.
      let p = picked (ltb (node_x r n) entries && child_is r (node_y r n) (n + 1)) (extent depth entries r (n + 1)) n e (ended depth n e modal q (shape_modal (node_kind r n) h l)) in
      let b = and_parts (ltb (node_x r n) entries) (child_is r (node_y r n) (n + 1)) p.0 in
      let c = child r (node_y r n) (n + 1) b.1 in
      let f = extent_subtree depth (n + 1) e p.1 in
      (Subtree.modal (one_of (node_kind r n) 4 h l) (ltb-true (node_x r n) entries b.0) (c.0 ∙ add-one n) (next n f.0), λ i. f.1 c.1))
      (λ h.
      let p = picked (eqb (node_y r n) 0) (Ok (n + 1)) n e (ended depth n e variable q (shape_variable (node_kind r n) h)) in
      last (Subtree.variable h (eqb-true (node_y r n) 0 p.0)) p.1)
      (λ h l.
      let p = picked (child_is r (node_y r n) (n + 1)) (extent depth entries r (n + 1)) n e (ended depth n e binder q (shape_binder (node_kind r n) h l)) in
      let c = child r (node_y r n) (n + 1) p.0 in
      let f = extent_subtree depth (n + 1) e p.1 in
      (Subtree.binder (one_of (node_kind r n) 7 h l) (c.0 ∙ add-one n) (next n f.0), λ i. f.1 c.1))
      (λ h. let g = ended depth n e unknown q (shape_unknown (node_kind r n) h) in let z : ◌≡◌ {A = ℕ} 0 1 = cc in absurd (omega arith))

  -- and the end of a subtree within the rule is found at every depth that is enough
  pub subtree_extent : (depth n e : ℕ) → Subtree entries r n e → e ≤ node_count r → e ≤ depth + n → extent depth entries r n ≡ Ok e
  subtree_extent zero n e p h d = absurd (omega (arith, subtree_after p))
  subtree_extent (suc depth) n e (Subtree.constant k x y) h d =
      extent_suc depth n leaf (shape_leaf (node_kind r n) (omega arith)) ∙
      taken (eqb (node_x r n) 0 && eqb (node_y r n) 0) (Ok (n + 1)) (fault_at n) (all (eqb (node_x r n) 0) (eqb (node_y r n) 0) (eq-eqb (node_x r n) 0 x) (eq-eqb (node_y r n) 0 y)) ∙
      ap Ok (add-one n)
  subtree_extent (suc depth) n e (Subtree.variable k y) h d =
      extent_suc depth n variable (shape_variable (node_kind r n) k) ∙
      taken (eqb (node_y r n) 0) (Ok (n + 1)) (fault_at n) (eq-eqb (node_y r n) 0 y) ∙ ap Ok (add-one n)
  subtree_extent (suc depth) n e (Subtree.pair {m = m} k x p y q) h d =
      let g = ranged (node_kind r n) 2 k in
      extent_suc depth n pair (shape_pair (node_kind r n) g.0 g.1) ∙
      taken (child_is r (node_x r n) (n + 1)) (second (extent depth entries r) r n (extent depth entries r (n + 1))) (fault_at n)
      (is_child r (node_x r n) (n + 1) (x ∙ sym (add-one n)) (omega (arith, subtree_after p, subtree_after q))) ∙
      ap (second (extent depth entries r) r n) (ap (extent depth entries r) (add-one n) ∙ subtree_extent depth (suc n) m p (omega (arith, subtree_after q)) (omega (arith, subtree_after q))) ∙
      taken (child_is r (node_y r n) m) (extent depth entries r m) (fault_at n) (is_child r (node_y r n) m y (omega (arith, subtree_after q))) ∙
      subtree_extent depth m e q h (omega (arith, subtree_after p))
  subtree_extent (suc depth) n e (Subtree.modal k x y p) h d =
      let g = ranged (node_kind r n) 4 k in
      extent_suc depth n modal (shape_modal (node_kind r n) g.0 g.1) ∙
      taken (ltb (node_x r n) entries && child_is r (node_y r n) (n + 1)) (extent depth entries r (n + 1)) (fault_at n)
      (all (ltb (node_x r n) entries) (child_is r (node_y r n) (n + 1)) (lt-ltb (node_x r n) entries x) (is_child r (node_y r n) (n + 1) (y ∙ sym (add-one n)) (omega (arith, subtree_after p)))) ∙
      ap (extent depth entries r) (add-one n) ∙ subtree_extent depth (suc n) e p h (omega arith)
  subtree_extent (suc depth) n e (Subtree.binder k y p) h d =
      let g = ranged (node_kind r n) 7 k in
      extent_suc depth n binder (shape_binder (node_kind r n) g.0 g.1) ∙
      taken (child_is r (node_y r n) (n + 1)) (extent depth entries r (n + 1)) (fault_at n) (is_child r (node_y r n) (n + 1) (y ∙ sym (add-one n)) (omega (arith, subtree_after p))) ∙
      ap (extent depth entries r) (add-one n) ∙ subtree_extent depth (suc n) e p h (omega arith)

-- ---- what is found lies in the rule

pub bounded_from : (n m count : ℕ) (x : Extent) → n ≤ m → Bounded m count x → Bounded n count x
bounded_from n m count (Ok e) h b = (omega arith, b.1)
bounded_from n m count (Err k) h b = (omega arith, b.1)

or_fault : (n count : ℕ) (b : Bool) (x : Extent) → n < count → (b ≡ true → Bounded n count x) → Bounded n count (pick b x (fault_at n))
or_fault n count true x h f = f refl
or_fault n count false x h f = (omega arith, h)

module _ (entries : ℕ) (r : List ℕ) (go : ℕ → Extent) (n : ℕ) (h : n < node_count r)
    (goes : (m : ℕ) → n < m → m < node_count r → Bounded m (node_count r) (go m)) where
  to_child : (c : ℕ) → child_is r c (n + 1) ≡ true → Bounded n (node_count r) (go (n + 1))
  to_child c q = bounded_from n (n + 1) (node_count r) (go (n + 1)) (omega arith) (goes (n + 1) (omega arith) (child r c (n + 1) q).1)

  to_second : (x : Extent) → Bounded n (node_count r) x → Bounded n (node_count r) (second go r n x)
  to_second (Err m) b = b
  to_second (Ok e) b =
      or_fault n (node_count r) (child_is r (node_y r n) e) (go e) h
      (λ q. bounded_from n e (node_count r) (go e) (omega arith) (goes e b.0 (child r (node_y r n) e q).1))

  course_bounded : (s : Shape) → Bounded n (node_count r) (course go entries r n s)
  course_bounded leaf = or_fault n (node_count r) (eqb (node_x r n) 0 && eqb (node_y r n) 0) (Ok (n + 1)) h (λ q. (omega arith, omega arith))
  course_bounded pair =
      or_fault n (node_count r) (child_is r (node_x r n) (n + 1)) (second go r n (go (n + 1))) h (λ q. to_second (go (n + 1)) (to_child (node_x r n) q))
  course_bounded modal =
      or_fault n (node_count r) (ltb (node_x r n) entries && child_is r (node_y r n) (n + 1)) (go (n + 1)) h
      (λ q. to_child (node_y r n) (and_parts (ltb (node_x r n) entries) (child_is r (node_y r n) (n + 1)) q).1)
  course_bounded variable = or_fault n (node_count r) (eqb (node_y r n) 0) (Ok (n + 1)) h (λ q. (omega arith, omega arith))
  course_bounded binder = or_fault n (node_count r) (child_is r (node_y r n) (n + 1)) (go (n + 1)) h (to_child (node_y r n))
  course_bounded unknown = (omega arith, h)

pub extent_bounded : (entries : ℕ) (r : List ℕ) (depth n : ℕ) → n < node_count r → node_count r ≤ depth + n → Bounded n (node_count r) (extent depth entries r n)
unfolding extent
extent_bounded entries r zero n h d = absurd (omega arith)
extent_bounded entries r (suc depth) n h d =
    course_bounded entries r (extent depth entries r) n h (λ m g l. extent_bounded entries r depth m l (omega arith)) (shape_of (node_kind r n))
