-- The evaluator's clauses: what a node of each kind asks of its children, and what it makes of their meanings.
use Prim.Native.Nat.{ℕ, suc, ◌-◌, ◌^◌, ◌<◌, ◌≤◌}
use mathlib.Core.Path.{◌≡◌, refl, sym, ap, subst, ◌∙◌}
use mathlib.Core.Bool.{Bool, true, false, false≢true}
use mathlib.Core.List.{List, Memᴰ}
use mathlib.Core.Logic.{◌↔◌}
use native.Mathlib.Omega.{arith}
use lib.ListN.{get_or}
use lib.Bits.{bit_and, bit_or, bit_xor}
use Rattle.sheet.specs.Contents.{plan_body, actions_body, rule_body}
use Rattle.sheet.specs.Plan.{state_count, action_count, transition_count, label, target}
use Rattle.sheet.specs.Actions.{entry_count}
use Rattle.sheet.specs.Rule.{node_count, node_kind, node_x, node_y, binders_before}
use Rattle.sheet.specs.WellFormed.{WellFormedRule, WellFormedPlan, WellFormedSheet}
use Rattle.sheet.specs.Reading.{sheet_check}
use Rattle.std.specs.Prelude.{Ok}
use Rattle.sheet.proofs.Acceptance.Parts.{sheet_kept}
use Rattle.sheet.specs.Fields.{fields_at}
use Rattle.sheet.specs.declared.Fields.{Fields}
use Rattle.sheet.proofs.Nodes.Children.{PairChildren, ModalChild, node_kind_lem, pair_children, modal_child}
use Rattle.sheet.proofs.Nodes.Binders.{binders_rise}
use Rattle.calculus.specs.Formulas.{Formula, ActionFormula, false_formula, true_formula, disj, conj, some, every, var}
use Rattle.sheet.specs.TransitionSystem.{LabelledTransition, plan_of, transition_of}
use Rattle.calculus.specs.Meaning.{Holds, meets}
use Rattle.calculus.specs.Decode.{formula, action_formula}
use Rattle.calculus.specs.MeetingMask.{bit}
use Rattle.calculus.proofs.Masks.MeetingMask.{meeting_bit}
use Rattle.calculus.proofs.Table1.Modal.{Somewhere, Everywhere}
use Rattle.sheet.proofs.TransitionSystem.{member_at, at_member}
use Rattle.calculus.proofs.Table1.Monotone.{free}
use Rattle.calculus.proofs.Decoding.Variables.{not_binder, above_second, free_at}
use Rattle.calculus.proofs.Table1.Verdicts.{sheet_in_range}
use Rattle.calculus.proofs.Decoding.Nodes.{false_node_holds, true_node_holds, or_node_holds, and_node_holds, some_node_holds, every_node_holds, variable_node_holds}
use Rattle.reference.specs.Internal.Evaluating.{Members, ActionMasks, TransitionInto, Preimage, context_of, SixSets, NodeMeaning, Ready, Evaluating, Evaluated}
use Rattle.reference.proofs.Words.Members.{members_as, members_none, members_all, members_union, members_both, members_others}
use Rattle.reference.proofs.Evaluation.Contexts.{above_number, meaning_local, ready_later, ready_before, ready_join}

-- an accepted sheet of at most 64 states, with the action formulas that its actions meet
pub record Judging (s masks : List ℕ) : Type 0 where
  pub kept : WellFormedSheet s
  pub few : state_count (plan_body s) ≤ 64
  pub met : ActionMasks (actions_body s) (action_count (plan_body s)) masks

-- a call for node c, from node n: node c stands after n, so that fewer nodes are left
pub record Call (s : List ℕ) (n c : ℕ) (words : List ℕ) : Type 0 where
  pub fewer : node_count (rule_body s) - c < node_count (rule_body s) - n
  pub asked : Evaluating s c words

-- a step of the plan that an entry's formula allows
module _ (s masks : List ℕ) (judging : Judging s masks) (entry : ℕ) (few : entry < entry_count (actions_body s)) where
  abbrev α : ActionFormula
  α = action_formula (actions_body s) entry

  plan_kept : WellFormedPlan (plan_body s)
  plan_kept = judging.kept.bodies_kept.plan_kept

  met_is : (i : ℕ) → i < transition_count (plan_body s) → bit (get_or masks (label (plan_body s) i) 0) entry ≡ meets (action_count (plan_body s)) α (label (plan_body s) i)
  met_is i l =
      ap (λ (m : ℕ). bit m entry) (judging.met.at (label (plan_body s) i) (plan_kept.label_below i l)) ∙
      meeting_bit (action_count (plan_body s)) (actions_body s) (label (plan_body s) i) entry judging.kept.bodies_kept.actions_kept.few few

  -- the pass over the transitions finds what Table 1 asks
  leads_iff : {v : ℕ} {Q : ℕ → Type 0} → Members (state_count (plan_body s)) v Q → (t : ℕ)
      → TransitionInto (plan_body s) masks entry v (transition_count (plan_body s)) t ↔ Somewhere (plan_of (plan_body s)) α t Q
  leads_iff {v} {Q} m t = (to, of)
    where
      to : TransitionInto (plan_body s) masks entry v (transition_count (plan_body s)) t → Somewhere (plan_of (plan_body s)) α t Q
      to h = (
        transition_of (plan_body s) h.number,
        at_member (plan_body s) h.number h.before,
        h.from,
        sym (met_is h.number h.before) ∙ h.met,
        m.sound (target (plan_body s) h.number) (plan_kept.target_below h.number h.before) h.into,
      )

      of : Somewhere (plan_of (plan_body s)) α t Q → TransitionInto (plan_body s) masks entry v (transition_count (plan_body s)) t
      of h = let k = member_at (plan_body s) h.0 h.1 in
          let e = subst (λ (x : LabelledTransition). (x.origin ≡ t) × (meets (action_count (plan_body s)) α x.action ≡ true) × Q x.target) k.is (h.2, h.3, h.4) in
          record {
            number = k.at;
            before = k.before_end;
            from = e.0;
            met = met_is k.at k.before_end ∙ e.1;
            into = m.complete (target (plan_body s) k.at) (plan_kept.target_below k.at k.before_end) e.2;
          }

  -- none leads out of the set: every one leads into it
  every_iff : {v : ℕ} {Q : ℕ → Type 0} → Members (state_count (plan_body s)) v Q → (t : ℕ)
      → (Somewhere (plan_of (plan_body s)) α t (λ x. Q x → ⊥) → ⊥) ↔ Everywhere (plan_of (plan_body s)) α t Q
  every_iff {v} {Q} m t = (to, λ h k. k.4 (h k.0 k.1 k.2 k.3))
    where
      below : (x : LabelledTransition) → Memᴰ x (plan_of (plan_body s)).transitions → x.target < state_count (plan_body s)
      below x i = (sheet_in_range judging.kept).target_below x i

      to : (Somewhere (plan_of (plan_body s)) α t (λ x. Q x → ⊥) → ⊥) → Everywhere (plan_of (plan_body s)) α t Q
      to h x i o k = go (bit v x.target) refl
        where
          go : (b : Bool) → bit v x.target ≡ b → Q x.target
          go true e = m.sound x.target (below x i) e
          go false e = absurd (h (x, i, o, k, λ q. false≢true (sym e ∙ m.complete x.target (below x i) q)))

-- node n, with its fields f
pub record At (s masks : List ℕ) (n : ℕ) (words : List ℕ) (f : Fields) : Type 0 where
  pub judging : Judging s masks
  pub pre : Evaluating s n words
  pub is : f ≡ fields_at (rule_body s) n

pub at_node : {s masks : List ℕ} {n : ℕ} {words : List ℕ} → sheet_check s ≡ Ok tt → state_count (plan_body s) ≤ 64
    → ActionMasks (actions_body s) (action_count (plan_body s)) masks → Evaluating s n words
    → (r : List ℕ) → r ≡ rule_body s → (f : Fields) → f ≡ fields_at r n → At s masks n words f
at_node {s} {n = n} accepted few met pre r q f e = record {
  judging = record { kept = sheet_kept s accepted; few = few; met = met };
  pre = pre;
  is = e ∙ ap (λ (b : List ℕ). fields_at b n) q;
}

abbrev pub states_of : List ℕ → ℕ
states_of s = state_count (plan_body s)

-- the meaning of a formula, and the formula of a node
abbrev pub Of : List ℕ → Formula → List ℕ → ℕ → Type 0
Of s ψ words = Holds (plan_of (plan_body s)) ψ (context_of words)

abbrev pub φ : List ℕ → ℕ → Formula
φ s c = formula (actions_body s) (rule_body s) c

module _ {s masks : List ℕ} {n : ℕ} {words : List ℕ} {f : Fields} (at : At s masks n words f) where
  pub kind_is : f.kind ≡ node_kind (rule_body s) n
  kind_is = ap (λ (g : Fields). g.kind) at.is

  pub x_is : f.x ≡ node_x (rule_body s) n
  x_is = ap (λ (g : Fields). g.x) at.is

  pub y_is : f.y ≡ node_y (rule_body s) n
  y_is = ap (λ (g : Fields). g.y) at.is

  among : n < node_count (rule_body s)
  among = at.pre.among

  pub rule_kept : WellFormedRule (entry_count (actions_body s)) (rule_body s)
  rule_kept = at.judging.kept.bodies_kept.rule_kept

  pub call : (c : ℕ) (words' : List ℕ) → n < c → c < node_count (rule_body s) → SixSets (states_of s) words' → Ready s c words' → Call s n c words'
  call c words' h l w q = record {
    fewer = omega (arith, at.pre.among);
    asked = record { among = l; sets = w; ready = q };
  }

  -- the meaning of a node is that of its formula
  node_means : (ψ : Formula) → φ s n ≡ ψ → {w : ℕ} → Members (states_of s) w (Of s ψ words) → Members (states_of s) w (NodeMeaning s n words)
  node_means ψ q {w} m = subst (λ (χ : Formula). Members (states_of s) w (Of s χ words)) (sym q) m

  -- the meaning of a child, at the number that the formula names
  pub child : {c c' : ℕ} {words₁ words₂ : List ℕ} {v : ℕ} → c ≡ c' → Evaluated s c words₁ words₂ v → Members (states_of s) v (NodeMeaning s c' words₁)
  child {words₁ = words₁} {v = v} q m = subst (λ (i : ℕ). Members (states_of s) v (NodeMeaning s i words₁)) q m.are

  -- a node that leaves the context as it is
  leaf : {w : ℕ} → Members (states_of s) w (NodeMeaning s n words) → Evaluated s n words words w
  leaf m = record { are = m; same = λ k l. refl; sets = at.pre.sets; ready = at.pre.ready }

  pub step_false : f.kind ≡ 0 → Evaluated s n words words 0
  unfolding Holds
  step_false h = leaf (node_means false_formula (false_node_holds rule_kept (actions_body s) n among (sym kind_is ∙ h)) members_none)

  pub step_true : f.kind ≡ 1 → (w : ℕ) → w ≡ 2 ^ states_of s - 1 → Evaluated s n words words w
  unfolding Holds
  step_true h w q =
      subst (Evaluated s n words words) (sym q) (leaf (node_means true_formula (true_node_holds rule_kept (actions_body s) n among (sym kind_is ∙ h)) members_all))

  pub step_variable : f.kind ≡ 6 → (w : ℕ) → w ≡ get_or words f.x 0 → Evaluated s n words words w
  unfolding Holds
  step_variable k w q =
      subst (Evaluated s n words words) (sym (q ∙ ap (λ (i : ℕ). get_or words i 0) x_is))
      (leaf (node_means (var (node_x (rule_body s) n)) (variable_node_holds rule_kept (actions_body s) n among (sym kind_is ∙ k))
      (record { small = at.pre.sets.below (node_x (rule_body s) n); sound = λ t l b. b; complete = λ t l b. b })))

  -- a kept rule has no other kind
  pub step_unknown : 8 < f.kind → (w : ℕ) → Evaluated s n words words w
  step_unknown l w = absurd (omega (arith, kind_is, node_kind_lem rule_kept n among))

  -- a node that is no fixed point has the context from its last child, the one from node c on
  inner : {c : ℕ} {words₁ words₂ : List ℕ} {v w : ℕ} → node_kind (rule_body s) n < 7 → n < c → Evaluated s c words₁ words₂ v
      → ((k : ℕ) → k < binders_before (rule_body s) (suc n) → get_or words₁ k 0 ≡ get_or words k 0) → Ready s (suc n) words₂ → Members (states_of s) w (NodeMeaning s n words) → Evaluated s n words words₂ w
  inner {c} g h m e q a = record {
    are = a;
    same = λ k l. m.same k (omega (arith, binders_rise (rule_body s) n c (omega arith))) ∙ e k (omega (arith, binders_rise (rule_body s) n (suc n) (omega arith)));
    sets = m.sets;
    ready = ready_before at.judging.kept g q;
  }

  module _ (h : 2 ≤ f.kind) (g : f.kind < 4) where
    parts : PairChildren (entry_count (actions_body s)) (rule_body s) n
    parts = pair_children rule_kept n among (omega (arith, kind_is)) (omega (arith, kind_is))

    first_is : f.x ≡ suc n
    first_is = x_is ∙ parts.x_is

    pub call_first : Call s n f.x words
    call_first =
        call f.x words (omega (arith, first_is)) (omega (arith, first_is, parts.after, parts.below)) at.pre.sets
        (ready_later at.judging.kept (omega (arith, first_is)) at.pre.ready)

    module _ (words₁ : List ℕ) (v : ℕ) (at_x : Evaluated s f.x words words₁ v) where
      pub call_second : Call s n f.y words₁
      call_second =
          call f.y words₁ (omega (arith, y_is, parts.after)) (omega (arith, y_is, parts.below)) at_x.sets
          (ready_later at.judging.kept (omega (arith, first_is, y_is, parts.after)) at_x.ready)

      at_first : (k : ℕ) → k < binders_before (rule_body s) (suc n) → get_or words₁ k 0 ≡ get_or words k 0
      at_first k l = at_x.same k (omega (arith, ap (binders_before (rule_body s)) first_is))

      -- the second child's variables are bound above the node: the first child leaves them as they are
      second_free : (k : ℕ) → free k (φ s (node_y (rule_body s) n)) ≡ true → get_or words₁ k 0 ≡ get_or words k 0
      second_free k e =
          let u = free_at rule_kept (actions_body s) (node_y (rule_body s) n) (omega (arith, parts.below)) k e in
          let v = above_second n (not_binder (rule_body s) n (omega (arith, kind_is))) parts.first u in
          at_first k (omega (arith, above_number at.judging.kept v, binders_rise (rule_body s) n (suc n) (omega arith)))

      module _ (words₂ : List ℕ) (w : ℕ) (at_y : Evaluated s f.y words₁ words₂ w) where
        second : Members (states_of s) w (NodeMeaning s (node_y (rule_body s) n) words)
        second =
            members_as (child y_is at_y)
            (meaning_local at.judging.kept (node_y (rule_body s) n) (omega (arith, parts.below)) words₁ words second_free)

        pair : {u : ℕ} → Members (states_of s) u (NodeMeaning s n words) → Evaluated s n words words₂ u
        pair m =
            inner (omega (arith, kind_is)) (omega (arith, y_is, parts.after)) at_y at_first
            (ready_join at.judging.kept (subst (λ (i : ℕ). Ready s i words₁) first_is at_x.ready) at_y.ready at_y.same) m

        pub step_or : f.kind ≡ 2 → Evaluated s n words words₂ (bit_or v w)
        unfolding Holds
        step_or k = pair (node_means (disj (φ s (suc n)) (φ s (node_y (rule_body s) n))) (or_node_holds rule_kept (actions_body s) n among (sym kind_is ∙ k)) (members_union (child first_is at_x) second))

        pub step_and : f.kind ≡ 3 → Evaluated s n words words₂ (bit_and v w)
        unfolding Holds
        step_and k = pair (node_means (conj (φ s (suc n)) (φ s (node_y (rule_body s) n))) (and_node_holds rule_kept (actions_body s) n among (sym kind_is ∙ k)) (members_both (child first_is at_x) second))

  module _ (h : 4 ≤ f.kind) (g : f.kind < 6) where
    under : ModalChild (entry_count (actions_body s)) (rule_body s) n
    under = modal_child rule_kept n among (omega (arith, kind_is)) (omega (arith, kind_is))

    next_is : f.y ≡ suc n
    next_is = y_is ∙ under.y_is

    pub call_modal : Call s n f.y words
    call_modal =
        call f.y words (omega (arith, next_is)) (omega (arith, next_is, under.below)) at.pre.sets
        (ready_later at.judging.kept (omega (arith, next_is)) at.pre.ready)

    module _ (words₁ : List ℕ) (v : ℕ) (at_y : Evaluated s f.y words words₁ v) where
      steps : (u w : ℕ) → Preimage (plan_body s) masks f.x u w → Preimage (plan_body s) masks (node_x (rule_body s) n) u w
      steps u w m = subst (λ (e : ℕ). Preimage (plan_body s) masks e u w) x_is m

      modal : {u : ℕ} → Members (states_of s) u (NodeMeaning s n words) → Evaluated s n words words₁ u
      modal m = inner (omega (arith, kind_is)) (omega (arith, next_is)) at_y (λ k l. refl) (subst (λ (i : ℕ). Ready s i words₁) next_is at_y.ready) m

      pub step_some : f.kind ≡ 4 → (w : ℕ) → Preimage (plan_body s) masks f.x v w → Evaluated s n words words₁ w
      unfolding Holds
      step_some k w m =
          modal (node_means (some (action_formula (actions_body s) (node_x (rule_body s) n)) (φ s (suc n))) (some_node_holds rule_kept (actions_body s) n among (sym kind_is ∙ k))
          (members_as (steps v w m) (λ t l. leads_iff s masks at.judging (node_x (rule_body s) n) under.x_below (child next_is at_y) t)))

      pub step_every : f.kind ≡ 5 → (full w : ℕ) → full ≡ 2 ^ states_of s - 1 → Preimage (plan_body s) masks f.x (bit_xor full v) w → Evaluated s n words words₁ (bit_xor full w)
      unfolding Holds
      step_every k full w q m =
          subst (λ (u : ℕ). Evaluated s n words words₁ (bit_xor u w)) (sym q)
          (modal (node_means (every (action_formula (actions_body s) (node_x (rule_body s) n)) (φ s (suc n))) (every_node_holds rule_kept (actions_body s) n among (sym kind_is ∙ k))
          (members_as (members_others
          (members_as (steps (bit_xor (2 ^ states_of s - 1) v) w (subst (λ (u : ℕ). Preimage (plan_body s) masks f.x (bit_xor u v) w) q m))
          (λ t l. leads_iff s masks at.judging (node_x (rule_body s) n) under.x_below (members_others (child next_is at_y)) t)))
          (λ t l. every_iff s masks at.judging (node_x (rule_body s) n) under.x_below (child next_is at_y) t))))
