-- What the index says stays while the search stores more in it.
use Prim.Native.Nat.{ℕ, ◌+◌, ◌<◌, ◌≤◌}
use mathlib.Core.List.{List}
use mathlib.Core.Bool.{true, false}
use mathlib.Core.Path.{◌≡◌, sym, ap, subst, ◌∙◌}
use native.Mathlib.Omega.{arith}
use native.Mathlib.Decide.{ℕ_discrete}
use lib.ListN.{length, get_or, set, length-set}
use lib.Seq.{get_or-set_same, get_or-set_other}
use Rattle.sheet.specs.Plan.{state_count, label, target}
use Rattle.sheet.specs.WellFormed.{WellFormedPlan}
use Rattle.graph.specs.declared.Index.{Index}
use Rattle.graph.specs.declared.searching.Colour.{Colour}
use Rattle.graph.specs.declared.searching.Colour.TheVariants.{Unseen, Done}
use Rattle.graph.specs.Index.{Sized, Blank, with_first, with_action}
use Rattle.graph.specs.Explored.{first_from, Indexed}
use Rattle.graph.specs.Internal.Searching.{DoneState, Coloured, Retains}

pub blank_sized : {l : Index} → Blank l → Sized l
blank_sized h = record { firsts_are = ap length h.no_firsts; actions_are = ap length h.no_actions }

pub retains_self : {p : List ℕ} {l : Index} → Retains p l l
retains_self = record { size = λ h. h; firsts_kept = λ k h e. e; notes_kept = λ a e. e }

pub retains_then : {p : List ℕ} {l m n : Index} → Retains p l m → Retains p m n → Retains p l n
retains_then x y = record {
  size = λ h. y.size (x.size h);
  firsts_kept = λ k h e. y.firsts_kept k h (x.firsts_kept k h e);
  notes_kept = λ a e. y.notes_kept a (x.notes_kept a e);
}

module _ {p : List ℕ} (kept : WellFormedPlan p) (l : Index) (size : Sized l) where
  -- where the transitions of a state begin
  pub retains_first : (k v : ℕ) → k ≤ state_count p → v ≡ first_from p k → Retains p l (with_first l k v)
  retains_first k v h r = record {
    size = λ s. record { firsts_are = length-set l.firsts k v ∙ s.firsts_are; actions_are = s.actions_are };
    firsts_kept = λ j m e. elim (ℕ_discrete j k) [
      | yes q ↦
          let new = get_or-set_same l.firsts k v 0 (omega (arith, kept.few_states, size.firsts_are)) ∙ r in
          subst (λ (x : ℕ). get_or (set l.firsts k v) x 0 ≡ first_from p x) (sym q) new
      | no q ↦ get_or-set_other l.firsts k j v 0 q ∙ e
    ];
    notes_kept = λ a e. e;
  }

  -- one of their actions
  pub retains_note : (a : ℕ) → a < 256 → Retains p l (with_action l a)
  retains_note a h = record {
    size = λ s. record { firsts_are = s.firsts_are; actions_are = length-set l.actions a true ∙ s.actions_are };
    firsts_kept = λ j m e. e;
    notes_kept = λ b e. elim (ℕ_discrete b a) [
      | yes q ↦
          subst (λ (x : ℕ). get_or (set l.actions a true) x false ≡ true) (sym q)
          (get_or-set_same l.actions a true false (omega (arith, size.actions_are)))
      | no q ↦ get_or-set_other l.actions a b true false q ∙ e
    ];
  }

indexed_on : {p : List ℕ} {l m : Index} {u : ℕ} → Retains p l m → Indexed p l u → Indexed p m u
indexed_on {p} {u = u} x k = record {
  state_below = k.state_below;
  begins = x.firsts_kept u (omega (arith, k.state_below)) k.begins;
  ends = x.firsts_kept (u + 1) (omega (arith, k.state_below)) k.ends;
  noted = λ i a b. x.notes_kept (label p i) (k.noted i a b);
}

-- what is done stays done, whatever else is
pub done_on : {p : List ℕ} {l m : Index} {c d : List Colour} {u : ℕ} → Retains p l m → ((v : ℕ) → get_or c v Unseen ≡ Done → get_or d v Unseen ≡ Done) → DoneState p l c u → DoneState p m d u
done_on {p} x keeps done = record {
  is_settled = done.is_settled;
  indexed = indexed_on x done.indexed;
  leads_on = λ i a b. keeps (target p i) (done.leads_on i a b);
}

pub coloured_on : {p : List ℕ} {l m : Index} {c : List Colour} → Retains p l m → Coloured p l c → Coloured p m c
coloured_on x coloured = record { done = λ u h. done_on x (λ v e. e) (coloured.done u h) }
