-- The binders above a node: an outer one has the smaller number and stands above the inner one; how many there are.
use Rattle.std.proofs.Common.{◌≡◌, ℕ, zero, suc, ◌+◌, ◌<◌, ◌≤◌, Bool, true, false, ◌&&◌, ltb, List, sym, refl, ap, ◌∙◌, subst, arith, ltb-true, le-ltb, lt-ltb}
use mathlib.Core.Bool.{false≢true}
use native.Mathlib.Decide.{dec_lt, ℕ_discrete}
use Rattle.sheet.specs.Rule.{node_count, node_x, is_binder, one_if, binders_before, binder_count, binder_node, subtree_end, below}
use Rattle.sheet.specs.WellFormed.{Subtree, Below, Binds, Bound, WellFormedRule}
use Rattle.sheet.proofs.Checks.Checks.{and_parts, all}
use Rattle.sheet.proofs.Nodes.Subtrees.{subtree_end_lem, subtree_nests}
use Rattle.sheet.proofs.Nodes.Binders.{binders_next, binders_rise, binder_found, binder_node_lem, binder_one}
use Rattle.sheet.proofs.Nodes.Children.{node_subtree}
use Rattle.calculus.proofs.Decoding.Variables.{Above}

-- how many of the nodes 0 to b - 1 are binders that node n stands below
unfoldable pub above_among : List ℕ → ℕ → ℕ → ℕ
above_among r n zero = 0
above_among r n (suc b) = above_among r n b + one_if (is_binder r b && below r b n)

-- how many binders stand above node n
abbrev pub binders_above : List ℕ → ℕ → ℕ
binders_above r n = above_among r n n

-- a binder is one of the B binders
pub binder_counted : (r : List ℕ) (b k : ℕ) → Binds r b k → k < binder_count r
binder_counted r b k w = omega (arith, w.numbered, binders_next r b w.is_binder_holds, binders_rise r (suc b) (node_count r) w.among)

-- binders stand in the order of their numbers
pub binders_ordered : (r : List ℕ) (b c j k : ℕ) → Binds r b j → Binds r c k → b < c → j < k
binders_ordered r b c j k w v h = omega (arith, w.numbered, v.numbered, binders_next r b w.is_binder_holds, binders_rise r (suc b) c h)

module _ {entries : ℕ} {r : List ℕ} where
  pub above_node : {k n : ℕ} (u : Above entries r k n) → binder_node r k ≡ u.at
  above_node {k} u = binder_node_lem r u.at k u.binds

  -- in terms of the binder's node
  pub above_below : {k n : ℕ} → Above entries r k n → Below entries r (binder_node r k) n
  above_below {k} {n} u = subst (λ (b : ℕ). Below entries r b n) (sym (above_node u)) u.below

  pub below_above : (k n : ℕ) → n < node_count r → Below entries r (binder_node r k) n → Above entries r k n
  below_above k n l w = record { at = binder_node r k; binds = binder_found r k (omega (arith, w.after)); below = w }

  -- "A variable node stands below its binder"
  pub bound_above : {n : ℕ} → Bound entries r n → Above entries r (node_x r n) n
  bound_above b = record { at = b.at; binds = b.binds; below = b.below }

  pub above_counted : {k n : ℕ} → Above entries r k n → k < binder_count r
  above_counted {k} u = binder_counted r u.at k u.binds

  -- what stands above a node stands above every node of its part
  pub above_inside : {k n e d : ℕ} → Subtree entries r n e → n < d → d < e → Above entries r k n → Above entries r k d
  above_inside p h l u = record {
    at = u.at;
    binds = u.binds;
    below = record { end = u.below.end; whole = u.below.whole; after = omega (arith, u.below.after); inside = omega (arith, subtree_nests u.below.whole (omega (arith, u.below.after)) u.below.inside p) };
  }

  -- a binder stands above its child
  pub above_own : {k n e : ℕ} → Binds r n k → Subtree entries r n e → suc n < e → Above entries r k (suc n)
  above_own {k} {n} w p h = record { at = n; binds = w; below = record { end = _; whole = p; after = omega arith; inside = h } }

  -- an outer variable has a smaller number than the variable of a binder below its own
  pub above_smaller : {j k n : ℕ} → Above entries r j n → Binds r n k → j < k
  above_smaller {j} {k} {n} u w = binders_ordered r u.at n j k u.binds w u.below.after

  -- of two binders above a node, that of the smaller number stands above the other
  pub above_nested : {j k n : ℕ} (u : Above entries r j n) (v : Above entries r k n) → j < k → Above entries r j v.at
  above_nested {j} {k} {n} u v h = record {
    at = u.at;
    binds = u.binds;
    below = record { end = u.below.end; whole = u.below.whole; after = before; inside = omega (arith, v.below.after, u.below.inside) };
  }
    where
      before : u.at < v.at
      before = elim (dec_lt u.at v.at) [
        | yes l ↦ l
        | no l ↦ elim (dec_lt v.at u.at) [
          | yes g ↦ absurd (omega (arith, binders_ordered r v.at u.at k j v.binds u.binds g))
          | no g ↦ let s : u.at ≡ v.at = omega (arith, l, g) in absurd (omega (arith, u.binds.numbered, v.binds.numbered, ap (binders_before r) s))
        ]
      ]

-- ---- how many

-- the test by which the binders above node n are counted
abbrev counts : List ℕ → ℕ → ℕ → Bool
counts r n b = is_binder r b && below r b n

one_le : (x y : Bool) → (x ≡ true → y ≡ true) → one_if x ≤ one_if y
one_le true true h = omega arith
one_le true false h = absurd (false≢true (h refl))
one_le false y h = omega arith

module _ (r : List ℕ) where
  among_le : (c n m : ℕ) → ((b : ℕ) → b < m → counts r c b ≡ true → counts r n b ≡ true) → above_among r c m ≤ above_among r n m
  unfolding above_among
  among_le c n zero h = omega arith
  among_le c n (suc m) h = omega (arith, among_le c n m (λ b l. h b (omega arith)), one_le (counts r c m) (counts r n m) (h m (omega arith)))

  among_lt : (c n m i : ℕ) → ((b : ℕ) → b < m → counts r c b ≡ true → counts r n b ≡ true) → i < m → counts r c i ≡ false → counts r n i ≡ true
      → above_among r c m < above_among r n m
  unfolding above_among
  among_lt c n zero i h l f t = absurd (omega arith)
  among_lt c n (suc m) i h l f t =
      elim (ℕ_discrete i m) [
        | yes q ↦
            let k = among_le c n m (λ b g. h b (omega arith)) in
            rw (subst (λ (x : ℕ). counts r c x ≡ false) q f, subst (λ (x : ℕ). counts r n x ≡ true) q t) (omega arith)
        | no q ↦ omega (arith, among_lt c n m i (λ b g. h b (omega arith)) (omega arith) f t, one_le (counts r c m) (counts r n m) (h m (omega arith)))
      ]

  among_few : (n m : ℕ) → above_among r n m ≤ binders_before r m
  unfolding above_among binders_before
  among_few n zero = omega arith
  among_few n (suc m) = go (is_binder r m) (below r m n) (among_few n m)
    where
      go : (x y : Bool) → above_among r n m ≤ binders_before r m → above_among r n m + one_if (x && y) ≤ binders_before r m + one_if x
      go true true l = omega arith
      go true false l = omega arith
      go false y l = omega arith

  -- no binder from n on stands above n
  among_all : (n m : ℕ) → n ≤ m → above_among r n m ≡ binders_above r n
  unfolding above_among
  among_all n zero h = let q : n ≡ 0 = omega arith in rw q
  among_all n (suc m) h =
      elim (dec_lt m n) [
        | yes l ↦ let q : n ≡ suc m = omega arith in subst (λ (k : ℕ). above_among r n k ≡ binders_above r n) q refl
        | no l ↦ none (is_binder r m) (le-ltb m n (omega arith)) ∙ among_all n m (omega arith)
      ]
    where
      none : (b : Bool) → ltb m n ≡ false → above_among r n m + one_if (b && below r m n) ≡ above_among r n m
      none true e = rw e (omega arith)
      none false e = omega arith

module _ {entries : ℕ} {r : List ℕ} (kept : WellFormedRule entries r) where
  -- a binder's node and its number
  pub binds_own : (n : ℕ) → n < node_count r → is_binder r n ≡ true → Binds r n (node_x r n)
  binds_own n l q = record { among = l; is_binder_holds = q; numbered = sym (kept.binder_numbers n l q) }

  -- the test of document 01's refusal 10
  pub below_tested : (b n : ℕ) → b < node_count r → Below entries r b n → below r b n ≡ true
  below_tested b n l w =
      let q = subtree_end_lem w.whole (omega (arith, subtree_nests kept.whole (omega arith) l w.whole, kept.few_nodes)) in
      all (ltb b n) (ltb n (subtree_end r b)) (lt-ltb b n w.after) (lt-ltb n (subtree_end r b) (omega (arith, w.inside)))

  pub tested_below : (b n : ℕ) → b < node_count r → below r b n ≡ true → Below entries r b n
  tested_below b n l e =
      let g = and_parts (ltb b n) (ltb n (subtree_end r b)) e in
      let w = node_subtree kept b l in
      let q = subtree_end_lem w.whole (omega (arith, w.within, kept.few_nodes)) in
      record { end = w.end; whole = w.whole; after = ltb-true b n g.0; inside = omega (arith, ltb-true n (subtree_end r b) g.1) }

  counted_above : (n b : ℕ) → b < node_count r → counts r n b ≡ true → Above entries r (binders_before r b) n
  counted_above n b l e =
      let t = and_parts (is_binder r b) (below r b n) e in
      record { at = b; binds = record { among = l; is_binder_holds = t.0; numbered = refl }; below = tested_below b n l t.1 }

  above_counts : {k n : ℕ} (u : Above entries r k n) → counts r n u.at ≡ true
  above_counts {k} {n} u = all (is_binder r u.at) (below r u.at n) u.binds.is_binder_holds (below_tested u.at n u.binds.among u.below)

  -- at most six
  pub depth_few : (n : ℕ) → n < node_count r → binders_above r n ≤ 6
  depth_few n l = omega (arith, among_few r n n, binders_rise r n (node_count r) (omega arith), kept.few_binders)

  module _ (c n : ℕ) (l : c < node_count r) (g : n < node_count r) (up : (k : ℕ) → Above entries r k c → Above entries r k n) where
    raise : (b : ℕ) → b < node_count r → counts r c b ≡ true → counts r n b ≡ true
    raise b h e =
        let u = up (binders_before r b) (counted_above c b h e) in
        let t = and_parts (is_binder r b) (below r b c) e in
        subst (λ (x : ℕ). counts r n x ≡ true) (binder_one r u.at b u.binds.is_binder_holds t.0 u.binds.numbered) (above_counts u)

    -- where every binder above c stands above n, c has no more of them
    pub depth_le : binders_above r c ≤ binders_above r n
    depth_le = omega (arith, among_all r c (node_count r) (omega arith), among_all r n (node_count r) (omega arith), among_le r c n (node_count r) raise)

    -- and fewer, where c is itself a binder above n
    pub depth_lt : (k : ℕ) (u : Above entries r k n) → u.at ≡ c → binders_above r c < binders_above r n
    depth_lt k u q =
        omega (
          arith,
          among_all r c (node_count r) (omega arith),
          among_all r n (node_count r) (omega arith),
          among_lt r c n (node_count r) u.at raise u.binds.among own (above_counts u),
        )
      where
        own : counts r c u.at ≡ false
        own = rw (u.binds.is_binder_holds, le-ltb u.at c (omega arith))
