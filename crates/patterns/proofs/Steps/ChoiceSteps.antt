-- The courses of putting a choice: a pair over its two parts, each before what follows.
use Prim.Native.Nat.{ℕ, ◌+◌, ◌<◌, ◌≤◌}
use mathlib.Core.Path.{◌≡◌, refl, sym, ◌∙◌, ap, subst}
use mathlib.Core.List.{List}
use native.Mathlib.Omega.{arith}
use lib.ListN.{length}
use Rattle.sheet.specs.Bytes.{byte}
use Rattle.calculus.specs.Trees.{Tree, binders, tree_of}
use Rattle.calculus.proofs.Trees.Stands.{size_some}
use Rattle.patterns.specs.Patterns.{Pattern}
use Rattle.patterns.specs.Translation.{before}
use Rattle.patterns.specs.Internal.SecondParts.{PartAt, Noted}
use Rattle.patterns.specs.Internal.Nodes.{pair_fields, with_node, Followed, Progressed}
use Rattle.patterns.specs.Internal.Putting.{every_of, Follows, PartRequires, PartPut}
use Rattle.patterns.specs.Internal.Nodes.{Progress, Made, Exceeded}
use Rattle.patterns.proofs.Steps.Parts.{part_some, part_inside, by_choice}
use Rattle.patterns.proofs.Steps.SecondSteps.{Two, two_inside}
use Rattle.patterns.proofs.Steps.Patching.{with_node_length}
use Rattle.patterns.proofs.Steps.Growing.{exceeds_first, grow_pair}
use Rattle.patterns.proofs.Steps.Follow.{follows_floor, follows_agree}
use Rattle.patterns.proofs.Steps.PartSteps.{making_on}

-- what progress that has been told says
pub told_followed : {t : Tree} {n b : ℕ} {out out' : List ℕ} {x : Progress} {n' b' : ℕ} → Progressed t n b out out' x → x ≡ Made n' b' → Followed t n b out out' n' b'
told_followed {t} {n} {b} {out} {out'} {x} {n'} {b'} h e = go (subst (Progressed t n b out out') e h)
  where
    go : Progressed t n b out out' (Made n' b') → Followed t n b out out' n' b'
    go (Progressed.followed g) = g

module _ {r p seconds slots : List ℕ} {at after n b : ℕ} {out : List ℕ} (h : PartRequires r p seconds slots at after n b out) (o : byte p at ≡ 2) where
  parts : Two p (Noted seconds) at h.end
  parts = two_inside h.part (omega arith) (omega arith)

  pub call_first : n < 64 → PartRequires r p seconds slots (at + 1) after (n + 1) b out
  call_first l = record {
    making = making_on h.making (n + 1) b refl (omega arith) h.making.few_binders;
    short = h.short;
    room = h.room;
    pattern = parts.first;
    end = parts.m;
    part = parts.part_first;
    next = h.next;
    follows = follows_floor (omega (arith, part_some parts.part_second)) h.follows;
    belongs = omega (arith, h.belongs);
  }

  module _ {slots₁ out₁ : List ℕ} {x₁ : Progress} (g : PartPut r p seconds slots slots₁ (at + 1) after (n + 1) b out out₁ x₁) where
    -- the first part does not fit
    pub put_first_exceeded : x₁ ≡ Exceeded → PartPut r p seconds slots slots₁ at after n b out out₁ Exceeded
    unfolding before
    put_first_exceeded e = record {
      made = λ R end k q f. by_choice (λ R. Progressed (before (every_of p) R k b) n b out out₁ Exceeded) o
          (λ Q T m s u t. over (before (every_of p) T k (b + binders (before (every_of p) Q k b)))
          (subst (Progressed (before (every_of p) Q k b) (n + 1) b out out₁) e (g.made Q m k u (follows_floor (omega (arith, part_some t)) f)))) q;
      same = λ i l. g.same i (omega arith);
      sized = g.sized;
    }
      where
        over : {l : Tree} (t : Tree) → Progressed l (n + 1) b out out₁ Exceeded → Progressed (Tree.pair (every_of p) l t) n b out out₁ Exceeded
        over t (Progressed.exceeded d) = Progressed.exceeded (exceeds_first n b (every_of p) t d)

    -- it fits: the pair is put over it, and the second part comes next
    module _ {n₁ b₁ : ℕ} (e : x₁ ≡ Made n₁ b₁) {out₂ : List ℕ} (w : out₂ ≡ with_node out₁ n (pair_fields (every_of p) n n₁)) where
      first_is : Followed (before (every_of p) parts.first h.next b) (n + 1) b out out₁ n₁ b₁
      first_is = told_followed (g.made parts.first parts.m h.next parts.part_first (follows_floor (omega (arith, part_some parts.part_second)) h.follows)) e

      -- the first part ends before the second begins, and so do its nodes
      pub second_bounds : (n + 1 < n₁) × ((n₁ ≤ 64) × ((at < byte seconds at) × (byte seconds at < length p)))
      second_bounds = let d = parts.noted in (
        omega (arith, first_is.nodes_are, size_some (before (every_of p) parts.first h.next b)),
        (first_is.few_nodes, (omega (arith, part_some parts.part_first), omega (arith, part_some parts.part_second, part_inside h.part))),
      )

      at_second : {Q : Pattern} {m end : ℕ} → byte seconds at ≡ m → PartAt p (Noted seconds) Q m end → PartAt p (Noted seconds) Q (byte seconds at) end
      at_second {Q} {end = end} s q = subst (λ (i : ℕ). PartAt p (Noted seconds) Q i end) (sym s) q

      still_follows : {end : ℕ} {k : ℕ → Tree} → Follows p seconds slots (every_of p) (tree_of r) end after k
          → Follows p seconds slots₁ (every_of p) (tree_of r) end after k
      still_follows f = follows_agree (λ j u. g.same j (omega (arith, h.belongs))) f

      pub call_second : PartRequires r p seconds slots₁ (byte seconds at) after n₁ b₁ out₂
      call_second = record {
        making = making_on h.making n₁ b₁ (ap length w ∙ with_node_length out₁ n (pair_fields (every_of p) n n₁) ∙ first_is.sized) first_is.few_nodes first_is.few_binders;
        short = h.short;
        room = g.sized ∙ h.room;
        pattern = parts.second;
        end = h.end;
        part = at_second parts.noted parts.part_second;
        next = h.next;
        follows = still_follows h.follows;
        belongs = omega (arith, h.belongs, second_bounds);
      }

      pub put_choice : {slots₂ out₃ : List ℕ} {x₂ : Progress} → PartPut r p seconds slots₁ slots₂ (byte seconds at) after n₁ b₁ out₂ out₃ x₂
          → PartPut r p seconds slots slots₂ at after n b out out₃ x₂
      unfolding before
      put_choice {slots₂} {out₃} {x₂} d = record {
        made = λ R end k q f. by_choice (λ R. Progressed (before (every_of p) R k b) n b out out₃ x₂) o
            (λ Q T m s u t.
            let first = told_followed (g.made Q m k u (follows_floor (omega (arith, part_some t)) f)) e in
            let second = d.made T end k (at_second s t) (still_follows f) in
            grow_pair out h.making.room n b (every_of p) first
            (subst (λ (v : List ℕ). Progressed (before (every_of p) T k (b + binders (before (every_of p) Q k b))) n₁ b₁ v out₃ x₂)
            w
            (subst (λ (v : ℕ). Progressed (before (every_of p) T k v) n₁ b₁ out₂ out₃ x₂) first.binders_are second)))
            q;
        same = λ i l. d.same i (omega (arith, second_bounds)) ∙ g.same i (omega arith);
        sized = d.sized ∙ g.sized;
      }
