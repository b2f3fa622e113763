-- The courses of putting what follows a part.
use Prim.Native.Nat.{ℕ, ◌+◌, ◌<◌, ◌≤◌}
use mathlib.Core.Path.{◌≡◌, refl, sym, ◌∙◌, ap, subst}
use mathlib.Core.List.{List}
use mathlib.Core.Logic.{◌≢◌}
use native.Mathlib.Omega.{arith}
use lib.ListN.{length}
use Rattle.sheet.specs.Bytes.{byte}
use Rattle.calculus.specs.Trees.{Tree, tree_of}
use Rattle.patterns.specs.Translation.{raised}
use Rattle.patterns.specs.Internal.SecondParts.{PartAt, Noted}
use Rattle.patterns.specs.Internal.Nodes.{variable_fields, with_node, Progressed}
use Rattle.patterns.specs.Internal.Putting.{every_of, Follows, PartRequires, PartPut, AfterRequires, AfterPut}
use Rattle.patterns.specs.Internal.Nodes.{Progress, Made, Exceeded}
use Rattle.patterns.proofs.Steps.Parts.{part_some, part_inside}
use Rattle.patterns.proofs.Steps.Growing.{full_exceeded, grow_variable}

-- nothing follows that has room behind 64 nodes
pub after_full : {r p seconds slots : List ℕ} {after n b : ℕ} {out : List ℕ} → 64 ≤ n → AfterPut r p seconds slots slots after n b out out Exceeded
after_full {b = b} {out = out} l = record {
  made = λ floor k f. Progressed.exceeded (full_exceeded (k b) _ b l);
  same = λ floor k f i u. refl;
  sized = refl;
}

module _ {r p seconds slots : List ℕ} {after n b : ℕ} {out : List ℕ} where
  -- at place 0 comes the rule
  pub after_rule : after ≡ 0 → {out' : List ℕ} {x : Progress} → Progressed (raised b (tree_of r)) n b out out' x
      → AfterPut r p seconds slots slots after n b out out' x
  after_rule z {out'} {x} g = record { made = λ floor k f. go f; same = λ floor k f i u. refl; sized = refl }
    where
      go : {floor : ℕ} {k : ℕ → Tree} → Follows p seconds slots (every_of p) (tree_of r) floor after k → Progressed (k b) n b out out' x
      go (Follows.rule z') = g
      go (Follows.variable o l e s) = absurd (omega arith)
      go (Follows.part o l e m f q s j k) = absurd (omega arith)

  module _ (h : AfterRequires r p seconds slots after n b out) (o : 1 ≤ after) where
    pub after_place_holds : (after < length p) × (length p ≤ 189)
    after_place_holds = (go h.follows, h.short)
      where
        go : {floor : ℕ} {k : ℕ → Tree} → Follows p seconds slots (every_of p) (tree_of r) floor after k → after < length p
        go (Follows.rule z) = absurd (omega arith)
        go (Follows.variable o' l e s) = l
        go (Follows.part o' l e m f q s j k) = omega (arith, part_some q, part_inside q)

    -- at the place of a sequence its second part
    pub call_after : byte p after ≡ 1 → PartRequires r p seconds slots (byte seconds after) (byte slots after) n b out
    call_after e = go h.follows
      where
        go : {floor : ℕ} {k : ℕ → Tree} → Follows p seconds slots (every_of p) (tree_of r) floor after k
            → PartRequires r p seconds slots (byte seconds after) (byte slots after) n b out
        go (Follows.rule z) = absurd (omega arith)
        go (Follows.variable o' l e' s) = absurd (omega arith)
        go (Follows.part {j = j} {end = end} {Q = Q} {k = k} o' l e' m f q s u g) = record {
          making = h.making;
          short = h.short;
          room = h.room;
          pattern = Q;
          end = end;
          part = subst (λ (i : ℕ). PartAt p (Noted seconds) Q i end) (sym m) q;
          next = k;
          follows = subst (λ (i : ℕ). Follows p seconds slots (every_of p) (tree_of r) end i k) (sym s) g;
          belongs = omega arith;
        }

    pub after_part : byte p after ≡ 1 → {slots' out' : List ℕ} {x : Progress}
        → PartPut r p seconds slots slots' (byte seconds after) (byte slots after) n b out out' x
        → AfterPut r p seconds slots slots' after n b out out' x
    after_part e {slots'} {out'} {x} g = record { made = λ floor k f. made f; same = λ floor k f. same f; sized = g.sized }
      where
        made : {floor : ℕ} {k : ℕ → Tree} → Follows p seconds slots (every_of p) (tree_of r) floor after k → Progressed (k b) n b out out' x
        made (Follows.rule z) = absurd (omega arith)
        made (Follows.variable o' l e' s) = absurd (omega arith)
        made (Follows.part {j = j} {end = end} {Q = Q} {k = k} o' l e' m f q s u d) =
            g.made Q end k (subst (λ (i : ℕ). PartAt p (Noted seconds) Q i end) (sym m) q)
            (subst (λ (i : ℕ). Follows p seconds slots (every_of p) (tree_of r) end i k) (sym s) d)

        same : {floor : ℕ} {k : ℕ → Tree} → Follows p seconds slots (every_of p) (tree_of r) floor after k → (i : ℕ) → i < floor → byte slots' i ≡ byte slots i
        same (Follows.rule z) i v = absurd (omega arith)
        same (Follows.variable o' l e' s) i v = absurd (omega arith)
        same (Follows.part o' l e' m f q s u d) i v = g.same i (omega arith)

    -- at the place of a repetition its variable
    pub after_variable : byte p after ≢ 1 → n < 64 → {out' : List ℕ} → out' ≡ with_node out n (variable_fields (byte slots after))
        → AfterPut r p seconds slots slots after n b out out' (Made (n + 1) b)
    after_variable e l {out'} w = record { made = λ floor k f. go f; same = λ floor k f i u. refl; sized = refl }
      where
        go : {floor : ℕ} {k : ℕ → Tree} → Follows p seconds slots (every_of p) (tree_of r) floor after k → Progressed (k b) n b out out' (Made (n + 1) b)
        go (Follows.rule z) = absurd (omega arith)
        go (Follows.variable {X = X} o' l' e' s) =
            subst (λ (v : List ℕ). Progressed (Tree.variable X) n b out v (Made (n + 1) b)) (sym (w ∙ ap (λ (v : ℕ). with_node out n (variable_fields v)) s))
            (Progressed.followed (grow_variable out h.making.room n b l h.making.few_binders X))
        go (Follows.part o' l' e' m f q s u d) = absurd (e e')
