-- The courses of putting a part: what each call of it is given, and what comes of it. A sequence, an action, and where there is no room.
use Prim.Native.Nat.{ℕ, ◌+◌, ◌<◌, ◌≤◌}
use mathlib.Core.Path.{◌≡◌, refl, ◌∙◌, ap, subst}
use mathlib.Core.List.{List}
use native.Mathlib.Omega.{arith}
use lib.ListN.{length, set, length-set}
use lib.Seq.{get_or-set_other}
use Rattle.sheet.specs.Bytes.{byte}
use Rattle.calculus.specs.Trees.{Tree, tree_of}
use Rattle.patterns.specs.Patterns.{Pattern}
use Rattle.patterns.specs.Translation.{before}
use Rattle.patterns.specs.Internal.SecondParts.{PartAt, Noted}
use Rattle.patterns.specs.Internal.Nodes.{Making, modal_fields, with_node, Progressed}
use Rattle.patterns.specs.Internal.Putting.{every_of, Follows, PartRequires, PartPut, AfterPut}
use Rattle.patterns.specs.Internal.Nodes.{Progress, Exceeded}
use Rattle.patterns.proofs.Steps.Parts.{part_some, part_inside, by_action, by_sequence}
use Rattle.patterns.proofs.Steps.Growing.{full_exceeded, grow_modal}
use Rattle.patterns.proofs.Steps.Follow.{follows_first_lem}

-- more nodes and binders, in a body as long
pub making_on : {r : List ℕ} {n b : ℕ} {out : List ℕ} → Making r n b out → (n₁ b₁ : ℕ) {out₁ : List ℕ} → length out₁ ≡ length out → n₁ ≤ 64 → b₁ ≤ 6
    → Making r n₁ b₁ out₁
making_on h n₁ b₁ s l u = record {
  entries = h.entries;
  kept = h.kept;
  few_entries = h.few_entries;
  few_nodes = l;
  few_binders = u;
  room = s ∙ h.room;
}

module _ {r p seconds slots : List ℕ} {at after n b : ℕ} {out : List ℕ} (h : PartRequires r p seconds slots at after n b out) where
  pub part_place : (1 ≤ at) × ((at + 2 ≤ length p) × (length p ≤ 189))
  part_place = (omega (arith, h.belongs), (omega (arith, part_some h.part, part_inside h.part), h.short))

  -- nothing has room behind 64 nodes
  pub put_full : 64 ≤ n → PartPut r p seconds slots slots at after n b out out Exceeded
  put_full l = record {
    made = λ R end k q f. Progressed.exceeded (full_exceeded (before (every_of p) R k b) n b l);
    same = λ i u. refl;
    sized = refl;
  }

  -- ---- a sequence: its first part, after which comes its second

  -- what follows the first part
  sequence_follows : byte p at ≡ 1 → {Q T : Pattern} {m end : ℕ} {k : ℕ → Tree} → byte seconds at ≡ m → PartAt p (Noted seconds) Q (at + 1) m
      → PartAt p (Noted seconds) T m end → Follows p seconds slots (every_of p) (tree_of r) end after k
      → Follows p seconds (set slots at after) (every_of p) (tree_of r) m at (before (every_of p) T k)
  sequence_follows o s q t f = follows_first_lem (omega (arith, h.room, part_place)) (omega (arith, part_some q)) o s t h.belongs f

  pub call_sequence : byte p at ≡ 1 → PartRequires r p seconds (set slots at after) (at + 1) at n b out
  call_sequence o = by_sequence (λ R. PartRequires r p seconds (set slots at after) (at + 1) at n b out) o
      (λ Q T m s q t. record {
        making = h.making;
        short = h.short;
        room = length-set slots at after ∙ h.room;
        pattern = Q;
        end = m;
        part = q;
        next = before (every_of p) T h.next;
        follows = sequence_follows o s q t h.follows;
        belongs = omega arith;
      })
      h.part

  pub put_sequence : byte p at ≡ 1 → {slots' out' : List ℕ} {x : Progress} → PartPut r p seconds (set slots at after) slots' (at + 1) at n b out out' x
      → PartPut r p seconds slots slots' at after n b out out' x
  unfolding before
  put_sequence o {slots'} {out'} {x} g = record {
    made = λ R end k q f. by_sequence (λ R. Progressed (before (every_of p) R k b) n b out out' x) o
        (λ Q T m s u t. g.made Q m (before (every_of p) T k) u (sequence_follows o s u t f)) q;
    same = λ i l. g.same i (omega arith) ∙ get_or-set_other slots at i after 0 (λ e. absurd (omega arith));
    sized = g.sized ∙ length-set slots at after;
  }

  -- ---- an action: a modality over what follows

  module _ (o : byte p at ≡ 0) (l : n < 64) {out₁ : List ℕ} (e : out₁ ≡ with_node out n (modal_fields (every_of p) n (byte p (at + 1)))) where
    pub put_action : {slots' out' : List ℕ} {x : Progress} → AfterPut r p seconds slots slots' after (n + 1) b out₁ out' x
        → PartPut r p seconds slots slots' at after n b out out' x
    unfolding before
    put_action {slots'} {out'} {x} g = record {
      made = λ R end k q f. by_action (λ R. Progressed (before (every_of p) R k b) n b out out' x) o
          (λ a y.
          let i : out₁ ≡ with_node out n (modal_fields (every_of p) n a) =
          e ∙ ap (λ (d : ℕ). with_node out n (modal_fields (every_of p) n d)) y in
          grow_modal out h.making.room n b l (every_of p) a (subst (λ (v : List ℕ). Progressed (k b) (n + 1) b v out' x) i (g.made end k f)))
          q;
      same = λ i u. g.same h.end h.next h.follows i (omega (arith, part_some h.part));
      sized = g.sized;
    }
