-- The place of refusal 9 is the first fault met in preorder. The statement is FaultsInPreorder of specs/FirstFault.antt.
use Prim.Native.Nat.{ℕ, zero, suc, ◌+◌, ◌<◌, ◌≤◌}
use mathlib.Core.Path.{◌≡◌, refl, sym, ap, subst, ◌∙◌}
use mathlib.Core.Bool.{Bool, true, false, ◌&&◌}
use mathlib.Core.List.{List}
use mathlib.Core.Logic.{◌↔◌, ◌⊎◌, inl, inr}
use native.Mathlib.Omega.{arith}
use native.Mathlib.Numerals.{add-one}
use lib.Dec.{eqb, ltb}
use borrow.Author.Tests.{ne_eqb, ltb-true, ltb-false, eqb-true, eqb-false}
use Rattle.sheet.specs.Bytes.{pick}
use Rattle.sheet.specs.Rule.{node_count, node_kind, node_x, node_y, Shape, shape_of, leaf, pair, modal, variable, binder, unknown}
use Rattle.sheet.specs.Rule.{child_is, fault_at, second, course, extent, first_fault, syntax_fault}
use Rattle.sheet.specs.WellFormed.{Subtree}
use Rattle.sheet.specs.FirstFault.{Pair, Modal, Binder, Child, NodeFault, FirstFault, RuleFault, FaultsInPreorder}
use Rattle.sheet.specs.Internal.Subtrees.{Bounded}
use Rattle.std.specs.Prelude.{Err, Ok}
use Rattle.sheet.specs.Rule.{Extent}
use Rattle.sheet.proofs.Checks.Bools.{differ, holds, fails}
use Rattle.sheet.proofs.Checks.Checks.{and_parts, all}
use Rattle.sheet.proofs.Nodes.Shapes.{shape_leaf, shape_pair, shape_modal, shape_variable, shape_binder, shape_unknown, ranged, one_of, kinds}
use Rattle.sheet.proofs.Nodes.Subtrees.{subtree_after}
use Rattle.sheet.proofs.Nodes.Unfolding.{subtrees}
use Rattle.sheet.proofs.Nodes.Extents.{child, is_child, taken, extent_suc, extent_subtree, subtree_extent, extent_bounded}

left : (b : Bool) (x y : Extent) → b ≡ false → pick b x y ≡ y
left b x y q = rw q

module _ (r : List ℕ) where
  no_child : (c node : ℕ) → child_is r c node ≡ false → Child r c node → ⊥
  no_child c node q k = differ (child_is r c node) (is_child r c node k.number k.among) q

  a_child : (c node : ℕ) → child_is r c node ≡ true → Child r c node
  a_child c node q = let k = child r c node q in record { number = k.0; among = k.1 }

  -- the next node, as both ways of writing it have it
  next_child : (c n : ℕ) → child_is r c (n + 1) ≡ true → Child r c (suc n)
  next_child c n q = subst (Child r c) (add-one n) (a_child c (n + 1) q)

  no_next : (c n : ℕ) → child_is r c (n + 1) ≡ false → Child r c (suc n) → ⊥
  no_next c n q k = no_child c (n + 1) q (subst (Child r c) (sym (add-one n)) k)

  lacks : (c node : ℕ) → (Child r c node → ⊥) → child_is r c node ≡ false
  lacks c node f = fails (child_is r c node) (λ q. f (a_child c node q))

  lacks_next : (c n : ℕ) → (Child r c (suc n) → ⊥) → child_is r c (n + 1) ≡ false
  lacks_next c n f = fails (child_is r c (n + 1)) (λ q. f (next_child c n q))

module _ (entries : ℕ) (r : List ℕ) where
  -- ---- nodes that are not faulty themselves

  fine_pair : (n : ℕ) → Pair r n → Child r (node_x r n) (suc n) → NodeFault entries r n → ⊥
  fine_pair n k c (NodeFault.kind h) = omega (arith, ranged (node_kind r n) 2 k)
  fine_pair n k c (NodeFault.constant_x h q) = omega (arith, ranged (node_kind r n) 2 k)
  fine_pair n k c (NodeFault.constant_y h q) = omega (arith, ranged (node_kind r n) 2 k)
  fine_pair n k c (NodeFault.variable_y h q) = omega (arith, ranged (node_kind r n) 2 k)
  fine_pair n k c (NodeFault.entry g q) = omega (arith, ranged (node_kind r n) 2 k, ranged (node_kind r n) 4 g)
  fine_pair n k c (NodeFault.pair_child g q) = q c
  fine_pair n k c (NodeFault.modal_child g q) = omega (arith, ranged (node_kind r n) 2 k, ranged (node_kind r n) 4 g)
  fine_pair n k c (NodeFault.binder_child g q) = omega (arith, ranged (node_kind r n) 2 k, ranged (node_kind r n) 7 g)

  fine_modal : (n : ℕ) → Modal r n → node_x r n < entries → Child r (node_y r n) (suc n) → NodeFault entries r n → ⊥
  fine_modal n k x c (NodeFault.kind h) = omega (arith, ranged (node_kind r n) 4 k)
  fine_modal n k x c (NodeFault.constant_x h q) = omega (arith, ranged (node_kind r n) 4 k)
  fine_modal n k x c (NodeFault.constant_y h q) = omega (arith, ranged (node_kind r n) 4 k)
  fine_modal n k x c (NodeFault.variable_y h q) = omega (arith, ranged (node_kind r n) 4 k)
  fine_modal n k x c (NodeFault.entry g q) = omega arith
  fine_modal n k x c (NodeFault.pair_child g q) = omega (arith, ranged (node_kind r n) 4 k, ranged (node_kind r n) 2 g)
  fine_modal n k x c (NodeFault.modal_child g q) = q c
  fine_modal n k x c (NodeFault.binder_child g q) = omega (arith, ranged (node_kind r n) 4 k, ranged (node_kind r n) 7 g)

  fine_binder : (n : ℕ) → Binder r n → Child r (node_y r n) (suc n) → NodeFault entries r n → ⊥
  fine_binder n k c (NodeFault.kind h) = omega (arith, ranged (node_kind r n) 7 k)
  fine_binder n k c (NodeFault.constant_x h q) = omega (arith, ranged (node_kind r n) 7 k)
  fine_binder n k c (NodeFault.constant_y h q) = omega (arith, ranged (node_kind r n) 7 k)
  fine_binder n k c (NodeFault.variable_y h q) = omega (arith, ranged (node_kind r n) 7 k)
  fine_binder n k c (NodeFault.entry g q) = omega (arith, ranged (node_kind r n) 7 k, ranged (node_kind r n) 4 g)
  fine_binder n k c (NodeFault.pair_child g q) = omega (arith, ranged (node_kind r n) 7 k, ranged (node_kind r n) 2 g)
  fine_binder n k c (NodeFault.modal_child g q) = omega (arith, ranged (node_kind r n) 7 k, ranged (node_kind r n) 4 g)
  fine_binder n k c (NodeFault.binder_child g q) = q c

  -- ---- a fault that is found is the first

  abbrev Told : ℕ → Extent → Type 0
  Told n (Ok e) = Unit {0}
  Told n (Err m) = FirstFault entries r n m.0

  told_or : (n : ℕ) (b : Bool) (x : Extent) → (b ≡ false → FirstFault entries r n n) → (b ≡ true → Told n x) → Told n (pick b x (fault_at n))
  told_or n true x f t = t refl
  told_or n false x f t = f refl

  told_through : (c n : ℕ) → ((m : ℕ) → FirstFault entries r c m → FirstFault entries r n m) → (x : Extent) → Told c x → Told n x
  told_through c n f (Ok e) t = tt
  told_through c n f (Err m) t = f m.0 t

  module _ (depth n : ℕ) (h : node_count r ≤ suc depth + n) (goes : (m : ℕ) → n < m → m < node_count r → Told m (extent depth entries r m)) where
    abbrev go : ℕ → Extent
    go = extent depth entries r

    to_first : (NodeFault entries r n → ⊥) → Pair r n ⊎ (Modal r n ⊎ Binder r n) → suc n < node_count r → Told n (go (n + 1))
    to_first fine k l =
        told_through (n + 1) n (λ m f. FirstFault.first fine k (subst (λ (i : ℕ). FirstFault entries r i m) (add-one n) f)) (go (n + 1)) (goes (n + 1) (omega arith) (omega arith))

    to_second : (NodeFault entries r n → ⊥) → Pair r n → suc n < node_count r → (x : Extent) → go (n + 1) ≡ x → Told n x → Told n (second go r n x)
    to_second fine k l (Err m) q t = t
    to_second fine k l (Ok e) q t =
        let w = extent_subtree entries r depth (n + 1) e q in
        let s : Subtree entries r (suc n) e = subst (λ (i : ℕ). Subtree entries r i e) (add-one n) w.0 in
        told_or n (child_is r (node_y r n) e) (go e) (λ b. FirstFault.second_number fine k s (w.1 (omega arith)) (no_child r (node_y r n) e b))
        (λ b. let c = a_child r (node_y r n) e b in
        told_through e n (λ m f. FirstFault.second fine k s c f) (go e) (goes e (omega (arith, subtree_after s)) c.among))

    course_told : Told n (course go entries r n (shape_of (node_kind r n)))
    course_told =
        let At : Shape → Type 0 = λ s. Told n (course go entries r n s) in
        kinds (node_kind r n)
        (λ k. subst At (sym (shape_leaf (node_kind r n) k)) (told_or n (eqb (node_x r n) 0 && eqb (node_y r n) 0) (Ok (n + 1)) (leaf_fault k) (λ b. tt)))
        (λ k l. let g = one_of (node_kind r n) 2 k l in
        subst At (sym (shape_pair (node_kind r n) k l))
        (told_or n (child_is r (node_x r n) (n + 1)) (second go r n (go (n + 1))) (λ b. FirstFault.itself (NodeFault.pair_child g (no_next r (node_x r n) n b)))
        (λ b. let c = next_child r (node_x r n) n b in
        let fine = fine_pair n g c in
        to_second fine g c.among (go (n + 1)) refl (to_first fine (inl g) c.among))))
        (λ k l. let g = one_of (node_kind r n) 4 k l in
        subst At (sym (shape_modal (node_kind r n) k l))
        (told_or n (ltb (node_x r n) entries && child_is r (node_y r n) (n + 1)) (go (n + 1)) (modal_fault g)
        (λ b. let p = and_parts (ltb (node_x r n) entries) (child_is r (node_y r n) (n + 1)) b in
        let c = next_child r (node_y r n) n p.1 in
        to_first (fine_modal n g (ltb-true (node_x r n) entries p.0) c) (inr (inl g)) c.among)))
        (λ k. subst At (sym (shape_variable (node_kind r n) k))
        (told_or n (eqb (node_y r n) 0) (Ok (n + 1)) (λ b. FirstFault.itself (NodeFault.variable_y k (eqb-false (node_y r n) 0 b))) (λ b. tt)))
        (λ k l. let g = one_of (node_kind r n) 7 k l in
        subst At (sym (shape_binder (node_kind r n) k l))
        (told_or n (child_is r (node_y r n) (n + 1)) (go (n + 1)) (λ b. FirstFault.itself (NodeFault.binder_child g (no_next r (node_y r n) n b)))
        (λ b. let c = next_child r (node_y r n) n b in to_first (fine_binder n g c) (inr (inr g)) c.among)))
        (λ k. subst At (sym (shape_unknown (node_kind r n) k)) (FirstFault.itself (NodeFault.kind k)))
      where
        leaf_fault : node_kind r n < 2 → (eqb (node_x r n) 0 && eqb (node_y r n) 0) ≡ false → FirstFault entries r n n
        leaf_fault k q = let small : node_kind r n ≤ 1 = omega arith in go_x small (eqb (node_x r n) 0) refl q
          where
            go_x : node_kind r n ≤ 1 → (b : Bool) → eqb (node_x r n) 0 ≡ b → (b && eqb (node_y r n) 0) ≡ false → FirstFault entries r n n
            go_x small true e f = FirstFault.itself (NodeFault.constant_y small (eqb-false (node_y r n) 0 f))
            go_x small false e f = FirstFault.itself (NodeFault.constant_x small (eqb-false (node_x r n) 0 e))

        modal_fault : Modal r n → (ltb (node_x r n) entries && child_is r (node_y r n) (n + 1)) ≡ false → FirstFault entries r n n
        modal_fault g q = go_x (ltb (node_x r n) entries) refl q
          where
            go_x : (b : Bool) → ltb (node_x r n) entries ≡ b → (b && child_is r (node_y r n) (n + 1)) ≡ false → FirstFault entries r n n
            go_x true e f = FirstFault.itself (NodeFault.modal_child g (no_next r (node_y r n) n f))
            go_x false e f = FirstFault.itself (NodeFault.entry g (ltb-false (node_x r n) entries e))

  extent_told : (depth n : ℕ) → n < node_count r → node_count r ≤ depth + n → Told n (extent depth entries r n)
  unfolding extent
  extent_told zero n l h = absurd (omega arith)
  extent_told (suc depth) n l h = course_told depth n h (λ m g k. extent_told depth m k (omega arith))

  -- ---- the first fault is found

  pair_goes : (n : ℕ) → (NodeFault entries r n → ⊥) → Pair r n → child_is r (node_x r n) (n + 1) ≡ true
  pair_goes n fine k = holds (child_is r (node_x r n) (n + 1)) (λ q. fine (NodeFault.pair_child k (no_next r (node_x r n) n q)))

  modal_goes : (n : ℕ) → (NodeFault entries r n → ⊥) → Modal r n → (ltb (node_x r n) entries && child_is r (node_y r n) (n + 1)) ≡ true
  modal_goes n fine k =
      all (ltb (node_x r n) entries) (child_is r (node_y r n) (n + 1)) (holds (ltb (node_x r n) entries) (λ q. fine (NodeFault.entry k (ltb-false (node_x r n) entries q))))
      (holds (child_is r (node_y r n) (n + 1)) (λ q. fine (NodeFault.modal_child k (no_next r (node_y r n) n q))))

  binder_goes : (n : ℕ) → (NodeFault entries r n → ⊥) → Binder r n → child_is r (node_y r n) (n + 1) ≡ true
  binder_goes n fine k = holds (child_is r (node_y r n) (n + 1)) (λ q. fine (NodeFault.binder_child k (no_next r (node_y r n) n q)))

  has_next : (n : ℕ) → (NodeFault entries r n → ⊥) → Pair r n ⊎ (Modal r n ⊎ Binder r n) → suc n < node_count r
  has_next n fine (inl k) = (next_child r (node_x r n) n (pair_goes n fine k)).among
  has_next n fine (inr (inl k)) =
      (next_child r (node_y r n) n (and_parts (ltb (node_x r n) entries) (child_is r (node_y r n) (n + 1)) (modal_goes n fine k)).1).among
  has_next n fine (inr (inr k)) = (next_child r (node_y r n) n (binder_goes n fine k)).among

  module _ (depth n : ℕ) where
    abbrev on : ℕ → Extent
    on = extent depth entries r

    -- the course of each kind: a test that fails is the fault of n, and one that holds goes on
    pair_is : Pair r n → extent (suc depth) entries r n ≡ course on entries r n pair
    pair_is k = let g = ranged (node_kind r n) 2 k in extent_suc entries r depth n pair (shape_pair (node_kind r n) g.0 g.1)

    modal_is : Modal r n → extent (suc depth) entries r n ≡ course on entries r n modal
    modal_is k = let g = ranged (node_kind r n) 4 k in extent_suc entries r depth n modal (shape_modal (node_kind r n) g.0 g.1)

    binder_is : Binder r n → extent (suc depth) entries r n ≡ course on entries r n binder
    binder_is k = let g = ranged (node_kind r n) 7 k in extent_suc entries r depth n binder (shape_binder (node_kind r n) g.0 g.1)

    leaf_is : node_kind r n ≤ 1 → extent (suc depth) entries r n ≡ course on entries r n leaf
    leaf_is k = extent_suc entries r depth n leaf (shape_leaf (node_kind r n) (omega arith))

    node_found : NodeFault entries r n → extent (suc depth) entries r n ≡ fault_at n
    node_found (NodeFault.kind k) = extent_suc entries r depth n unknown (shape_unknown (node_kind r n) k)
    node_found (NodeFault.constant_x k q) =
        leaf_is k ∙ left (eqb (node_x r n) 0 && eqb (node_y r n) 0) (Ok (n + 1)) (fault_at n)
        (fails (eqb (node_x r n) 0 && eqb (node_y r n) 0) (λ b. q (eqb-true (node_x r n) 0 (and_parts (eqb (node_x r n) 0) (eqb (node_y r n) 0) b).0)))
    node_found (NodeFault.constant_y k q) =
        leaf_is k ∙ left (eqb (node_x r n) 0 && eqb (node_y r n) 0) (Ok (n + 1)) (fault_at n)
        (fails (eqb (node_x r n) 0 && eqb (node_y r n) 0) (λ b. q (eqb-true (node_y r n) 0 (and_parts (eqb (node_x r n) 0) (eqb (node_y r n) 0) b).1)))
    node_found (NodeFault.variable_y k q) =
        extent_suc entries r depth n variable (shape_variable (node_kind r n) k) ∙ left (eqb (node_y r n) 0) (Ok (n + 1)) (fault_at n) (ne_eqb (node_y r n) 0 q)
    node_found (NodeFault.entry k q) =
        modal_is k ∙ left (ltb (node_x r n) entries && child_is r (node_y r n) (n + 1)) (on (n + 1)) (fault_at n)
        (fails (ltb (node_x r n) entries && child_is r (node_y r n) (n + 1))
        (λ b. omega (arith, ltb-true (node_x r n) entries (and_parts (ltb (node_x r n) entries) (child_is r (node_y r n) (n + 1)) b).0)))
    node_found (NodeFault.pair_child k q) =
        pair_is k ∙ left (child_is r (node_x r n) (n + 1)) (second on r n (on (n + 1))) (fault_at n) (lacks_next r (node_x r n) n q)
    node_found (NodeFault.modal_child k q) =
        modal_is k ∙ left (ltb (node_x r n) entries && child_is r (node_y r n) (n + 1)) (on (n + 1)) (fault_at n)
        (fails (ltb (node_x r n) entries && child_is r (node_y r n) (n + 1))
        (λ b. q (next_child r (node_y r n) n (and_parts (ltb (node_x r n) entries) (child_is r (node_y r n) (n + 1)) b).1)))
    node_found (NodeFault.binder_child k q) =
        binder_is k ∙ left (child_is r (node_y r n) (n + 1)) (on (n + 1)) (fault_at n) (lacks_next r (node_y r n) n q)

    module _ (fine : NodeFault entries r n → ⊥) where
      pair_on : Pair r n → extent (suc depth) entries r n ≡ second on r n (on (n + 1))
      pair_on k = pair_is k ∙ taken (child_is r (node_x r n) (n + 1)) (second on r n (on (n + 1))) (fault_at n) (pair_goes n fine k)

      first_found : (m : ℕ) → Pair r n ⊎ (Modal r n ⊎ Binder r n) → on (suc n) ≡ fault_at m → extent (suc depth) entries r n ≡ fault_at m
      first_found m (inl k) q = pair_on k ∙ ap (second on r n) (ap on (add-one n) ∙ q)
      first_found m (inr (inl k)) q =
          modal_is k ∙ taken (ltb (node_x r n) entries && child_is r (node_y r n) (n + 1)) (on (n + 1)) (fault_at n) (modal_goes n fine k) ∙ ap on (add-one n) ∙ q
      first_found m (inr (inr k)) q =
          binder_is k ∙ taken (child_is r (node_y r n) (n + 1)) (on (n + 1)) (fault_at n) (binder_goes n fine k) ∙ ap on (add-one n) ∙ q

      -- after a first child's part that ends at e
      module _ (k : Pair r n) (e : ℕ) (s : Subtree entries r (suc n) e) (within : e ≤ node_count r) (enough : node_count r ≤ suc depth + n) where
        after_first : extent (suc depth) entries r n ≡ second on r n (Ok e)
        after_first = pair_on k ∙ ap (second on r n) (ap on (add-one n) ∙ subtree_extent entries r depth (suc n) e s within (omega arith))

        number_found : (Child r (node_y r n) e → ⊥) → extent (suc depth) entries r n ≡ fault_at n
        number_found q = after_first ∙ left (child_is r (node_y r n) e) (on e) (fault_at n) (lacks r (node_y r n) e q)

        second_found : (m : ℕ) → Child r (node_y r n) e → on e ≡ fault_at m → extent (suc depth) entries r n ≡ fault_at m
        second_found m c q = after_first ∙ taken (child_is r (node_y r n) e) (on e) (fault_at n) (is_child r (node_y r n) e c.number c.among) ∙ q

  fault_extent : (depth : ℕ) {n m : ℕ} → FirstFault entries r n m → 1 ≤ depth → node_count r ≤ depth + n → extent depth entries r n ≡ fault_at m
  fault_extent zero {n} {m} f l h = absurd (omega arith)
  fault_extent (suc depth) {n} {m} (FirstFault.itself f) l h = node_found depth n f
  fault_extent (suc depth) {n} {m} (FirstFault.first fine k f) l h =
      first_found depth n fine m k (fault_extent depth f (omega (arith, has_next n fine k)) (omega arith))
  fault_extent (suc depth) {n} {m} (FirstFault.second_number {e = e} fine k s w q) l h = number_found depth n fine k e s w h q
  fault_extent (suc depth) {n} {m} (FirstFault.second {e = e} fine k s c f) l h =
      second_found depth n fine k e s (omega (arith, c.among)) h m c
      (fault_extent depth f (omega (arith, c.among, subtree_after s)) (omega (arith, subtree_after s)))

  -- ---- the rule

  fault_at_lem : (depth m : ℕ) → 1 ≤ depth → node_count r ≤ depth → RuleFault entries r m → first_fault (extent depth entries r 0) ≡ m
  fault_at_lem depth m l h (RuleFault.inside f) = ap first_fault (fault_extent depth f l (omega arith))
  fault_at_lem depth m l h (RuleFault.left_over s k) = ap first_fault (subtree_extent entries r depth 0 m s (omega arith) (omega arith))

  one_fault : (m m' : ℕ) → RuleFault entries r m → RuleFault entries r m' → m ≡ m'
  one_fault m m' f g = sym (fault_at_lem (suc (node_count r)) m (omega arith) (omega arith) f) ∙ fault_at_lem (suc (node_count r)) m' (omega arith) (omega arith) g

  module _ (some : 1 ≤ node_count r) where
    place_within : (x : Extent) → Bounded 0 (node_count r) x → first_fault x ≤ node_count r
    place_within (Ok e) b = b.1
    place_within (Err m) b = omega (arith, b.1)

    within : syntax_fault entries r ≤ node_count r
    within = place_within (extent (node_count r) entries r 0) (extent_bounded entries r (node_count r) 0 some (omega arith))

    fault_found : (m : ℕ) → RuleFault entries r m → (syntax_fault entries r ≡ m) × (m < node_count r)
    fault_found m f = (fault_at_lem (node_count r) m some (omega arith) f, among f)
      where
        among : RuleFault entries r m → m < node_count r
        among (RuleFault.inside g) =
            (subst (Bounded 0 (node_count r)) (fault_extent (node_count r) g some (omega arith)) (extent_bounded entries r (node_count r) 0 some (omega arith))).1
        among (RuleFault.left_over s l) = l

    found_fault : (m : ℕ) → syntax_fault entries r ≡ m → m < node_count r → RuleFault entries r m
    found_fault m q l = look (extent (node_count r) entries r 0) refl q
      where
        look : (x : Extent) → extent (node_count r) entries r 0 ≡ x → first_fault (extent (node_count r) entries r 0) ≡ m → RuleFault entries r m
        look (Ok e) p s =
            let g : e ≡ m = sym (ap first_fault p) ∙ s in
            RuleFault.left_over (subst (Subtree entries r 0) g (extent_subtree entries r (node_count r) 0 e p).0) l
        look (Err k) p s =
            let g : k.0 ≡ m = sym (ap first_fault p) ∙ s in
            RuleFault.inside (subst (FirstFault entries r 0) g (subst (Told 0) p (extent_told (node_count r) 0 some (omega arith))))

    -- no fault is found exactly where there is none
    pub no_fault : syntax_fault entries r ≡ node_count r → (m : ℕ) → RuleFault entries r m → ⊥
    no_fault q m f = let g = fault_found m f in omega (arith, g.0, g.1)

    pub a_fault : (syntax_fault entries r ≡ node_count r → ⊥) → RuleFault entries r (syntax_fault entries r)
    a_fault q = found_fault (syntax_fault entries r) refl (omega (arith, within, q))

    none_iff : ((m : ℕ) → RuleFault entries r m → ⊥) ↔ Subtree entries r 0 (node_count r)
    none_iff = (
      λ none. (subtrees.faultless entries r some).0 (omega (
        arith,
        eqb-true (syntax_fault entries r) (node_count r)
            (holds (eqb (syntax_fault entries r) (node_count r)) (λ e. none (syntax_fault entries r) (a_fault (eqb-false (syntax_fault entries r) (node_count r) e)))),
      )),
      λ w m f. no_fault ((subtrees.faultless entries r some).1 w) m f,
    )

pub faults_in_preorder : FaultsInPreorder
faults_in_preorder = record {
  found = λ entries r some m. (λ q. found_fault entries r some m q.0 q.1, fault_found entries r some m);
  one = one_fault;
  none = none_iff;
}
