-- The loop over the transitions of a state, for a "some" or an "every": the transition of a turn, the cell that it leads to, and the cells
-- of those that are left.
use Rattle.std.proofs.Common.{◌≡◌, ℕ, ◌+◌, ◌*◌, ◌<◌, ◌≤◌, Bool, true, false, List, [], ◌∷◌, length, get_or, sym, refl, ap, ◌∙◌, subst, inl, inr, arith}
use mathlib.Core.List.{Memᴰ}
use native.Mathlib.Nat.{sub-zero}
use Rattle.sheet.specs.Contents.{plan_body, actions_body, rule_body}
use Rattle.sheet.specs.Plan.{state_count, action_count, transition_count, origin, label, target}
use Rattle.sheet.specs.Actions.{entry_count}
use Rattle.sheet.specs.WellFormed.{WellFormedBodies}
use Rattle.sheet.proofs.Nodes.Subtrees.{ModalSubtree, modal_subtree, subtree_after}
use Rattle.calculus.specs.Meaning.{meets}
use Rattle.calculus.specs.MeetingMask.{bit, meeting_mask}
use Rattle.sheet.specs.TransitionSystem.{transitions_from}
use Rattle.calculus.specs.Decode.{action_formula}
use Rattle.calculus.proofs.Masks.MeetingMask.{meeting_bit}
use Rattle.sheet.proofs.Nodes.Children.{node_subtree}
use Rattle.graph.specs.Successors.{successors}
use Rattle.judge.specs.declared.index.Index.{Index}
use Rattle.judge.specs.Cells.{Cell, cell, following, cell_bytes}
use Rattle.graph.specs.Explored.{first_from}
use Rattle.judge.specs.Internal.Deciding.{FollowRequires, DecideRequires}
use Rattle.judge.specs.Internal.Index.{Prepared, NodeAt, PreparedState, TransitionAt}
use Rattle.graph.proofs.Looptest.Settled.{onward}
use Rattle.graph.proofs.Looptest.Height.{height, height_falls, successor_settled}
use Rattle.graph.proofs.Search.Outgoing.{first_bound, first_below, first_from_lem, first_order, successor_at, is_outgoing}
use Rattle.judge.proofs.Cells.Ranks.{level_few}
use Rattle.judge.proofs.Cells.CellRows.{followed}
use Rattle.judge.proofs.Steps.DecideSteps.{ValidAt, rank_at, x_at, y_at, decidable, prepared_node}
use Rattle.sheet.proofs.Acceptance.Parts.{bodies_kept}
use Rattle.judge.proofs.Steps.FollowSteps.{from, from_unmet, from_met, from_past, from_first}

-- the falling number of a walk at a state: above those of the cells at its successors, below those of its own cells
abbrev pub walk_rank : List ℕ → ℕ → ℕ
walk_rank s st = 2 * (height (successors (plan_body s)) (state_count (plan_body s)) st * 1000) + 1

-- the cells of the row, and those from transition i on
abbrev pub cells_of : List ℕ → ℕ → ℕ → List Cell
cells_of s n st = followed (plan_body s) (actions_body s) (rule_body s) 0 n st

abbrev pub cells_from : List ℕ → ℕ → ℕ → ℕ → List Cell
cells_from s n st i = from (action_count (plan_body s)) (plan_body s) (actions_body s) (x_at s n) (y_at s n) st i

-- whether the action of transition i meets the node's formula
abbrev pub meets_at : List ℕ → ℕ → ℕ → Bool
meets_at s n i = meets (action_count (plan_body s)) (action_formula (actions_body s) (x_at s n)) (label (plan_body s) i)

-- the loop over the transitions of a state, from first to end, has come to i
pub record TurnAt (s : List ℕ) (st first end i : ℕ) : Type 0 where
  pub first_is : first ≡ first_from (plan_body s) st
  pub end_is : end ≡ first_from (plan_body s) (st + 1)
  pub reached : first ≤ i
  pub within : i ≤ end
  pub few : end ≤ 2048

module _ {s : List ℕ} {index : Index} {t : List ℕ} {n st : ℕ} (f : FollowRequires s index t n st) where
  kept : WellFormedBodies (plan_body s) (actions_body s) (rule_body s)
  kept = bodies_kept s f.accepted

  modal : ModalSubtree (entry_count (actions_body s)) (rule_body s) n (node_subtree kept.rule_kept n f.node_below).end
  modal = modal_subtree (node_subtree kept.rule_kept n f.node_below).whole f.modal_low f.modal_high

  pub modal_node_at : NodeAt s index n
  modal_node_at = prepared_node f.accepted f.prepared f.node_below

  pub state_at : PreparedState s index st
  state_at = f.prepared.states_are st (inl refl)

  pub turns_start : {first end : ℕ} → first ≡ first_from (plan_body s) st → end ≡ first_from (plan_body s) (st + 1) → TurnAt s st first end first
  turns_start e g = record {
    first_is = e;
    end_is = g;
    reached = omega arith;
    within = omega (arith, first_order (plan_body s) kept.plan_kept st);
    few = omega (arith, first_bound (plan_body s) kept.plan_kept (st + 1), kept.plan_kept.few_transitions);
  }

  -- at first all cells of the row are left
  pub cells_start : {first : ℕ} → first ≡ first_from (plan_body s) st → cells_of s n st ≡ cells_from s n st first
  cells_start e =
      ap (λ (c : ℕ). following (action_count (plan_body s)) (actions_body s) (x_at s n) (y_at s n) st (transitions_from (plan_body s) c 0))
      (sym (sub-zero (transition_count (plan_body s)))) ∙
      (from_first (action_count (plan_body s)) (plan_body s) (actions_body s) (x_at s n) (y_at s n) st (first_from (plan_body s) st)
      (first_bound (plan_body s) kept.plan_kept st) (λ j l q. omega (arith, first_below (plan_body s) kept.plan_kept st j l)) ∙
      ap (cells_from s n st) (sym e))

  module _ {first end i : ℕ} (w : TurnAt s st first end i) where
    module _ (more : i < end) where
      from_here : first_from (plan_body s) st ≤ i
      from_here = omega (arith, w.first_is, w.reached)

      before_next : i < first_from (plan_body s) (st + 1)
      before_next = omega (arith, w.end_is)

      here : (i < transition_count (plan_body s)) × (origin (plan_body s) i ≡ st)
      here = is_outgoing (plan_body s) kept.plan_kept st i from_here before_next

      pub transition_at_lem : TransitionAt s i
      transition_at_lem = record { accepted = f.accepted; among = here.0 }

      pub turns_next : TurnAt s st first end (i + 1)
      turns_next = record {
        first_is = w.first_is;
        end_is = w.end_is;
        reached = omega (arith, w.reached);
        within = omega arith;
        few = w.few;
      }

      -- the mask of the transition's action tells whether it meets the formula
      pub met : {b : Bool} {mask lab e : ℕ} → b ≡ bit mask e → mask ≡ get_or index.masks lab 0
          → lab ≡ label (plan_body s) i → e ≡ x_at s n → b ≡ meets_at s n i
      met {mask = mask} p q r x =
          p ∙ (ap (λ (y : ℕ). bit mask y) x ∙
          (ap (λ (y : ℕ). bit y (x_at s n)) (q ∙ (ap (λ (y : ℕ). get_or index.masks y 0) r ∙ mask_is)) ∙
          meeting_bit (action_count (plan_body s)) (actions_body s) (label (plan_body s) i) (x_at s n) kept.actions_kept.few modal.x_below))
        where
          mask_is : get_or index.masks (label (plan_body s) i) 0
              ≡ meeting_mask (action_count (plan_body s)) (actions_body s) (label (plan_body s) i)
          mask_is = state_at.masks_are i from_here before_next

      is_successor : Memᴰ (target (plan_body s) i) (successors (plan_body s) st)
      is_successor = successor_at (plan_body s) kept.plan_kept st i from_here before_next

      -- what is prepared for a state is prepared for its successors
      prepared_on : Prepared s index st → Prepared s index (target (plan_body s) i)
      prepared_on p = record {
        offset_is = p.offset_is;
        nodes_are = p.nodes_are;
        marks_are = p.marks_are;
        binders_are = p.binders_are;
        states_are = λ u r. p.states_are u (inr (onward is_successor r));
      }

      abbrev pub child : Cell
      child = cell 0 (y_at s n) (target (plan_body s) i)

      child_valid : ValidAt s child
      child_valid = record {
        node_below = omega (arith, modal.y_is, subtree_after modal.child, (node_subtree kept.rule_kept n f.node_below).within);
        state_below = kept.plan_kept.target_below i here.0;
        state_settled =
            successor_settled (successors (plan_body s)) (state_count (plan_body s)) st (target (plan_body s) i) f.state_settled is_successor;
        marked = tt;
      }

      falls : 2 * rank_at s child < walk_rank s st
      falls =
          let next = successors (plan_body s) in
          let lower = height_falls next (state_count (plan_body s)) st (target (plan_body s) i) f.state_settled is_successor in
          omega (arith, lower, level_few kept.rule_kept 0 (y_at s n) child_valid.node_below tt)

      -- the cell that the transition leads to has a smaller falling number, and can be decided on a table that is long enough
      pub child_below : {u : List ℕ} {Y T : ℕ} → cell_bytes s ≤ length u → Y ≡ y_at s n → T ≡ target (plan_body s) i
          → (2 * rank_at s (cell 0 Y T) < walk_rank s st) × DecideRequires s index u (cell 0 Y T)
      child_below {u} {T = T} room e g =
          subst (λ (y : ℕ). Below (cell 0 y T)) (sym e)
          (subst (λ (z : ℕ). Below (cell 0 (y_at s n) z)) (sym g)
          (falls, decidable s f.accepted index u child (prepared_on f.prepared) room child_valid))
        where
          Below : Cell → Type 0
          Below c = (2 * rank_at s c < walk_rank s st) × DecideRequires s index u c

      pub cells_met : meets_at s n i ≡ true → cells_from s n st i ≡ child ∷ cells_from s n st (i + 1)
      cells_met = from_met (action_count (plan_body s)) (plan_body s) (actions_body s) (x_at s n) (y_at s n) st i here.0 here.1

      pub cells_unmet : meets_at s n i ≡ false → cells_from s n st i ≡ cells_from s n st (i + 1)
      cells_unmet = from_unmet (action_count (plan_body s)) (plan_body s) (actions_body s) (x_at s n) (y_at s n) st i here.0 here.1

    pub cells_end : end ≤ i → cells_from s n st i ≡ []
    cells_end past =
        from_past (action_count (plan_body s)) (plan_body s) (actions_body s) (x_at s n) (y_at s n) st (transition_count (plan_body s)) i
        (omega arith)
        (λ j l m q. omega (arith, first_from_lem (plan_body s) kept.plan_kept (st + 1) j (omega (arith, w.end_is)) m))
