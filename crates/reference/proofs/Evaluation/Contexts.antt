-- What a node means depends on the variables bound before it alone, and grows with their sets; so fixed points that can go on can still do so when other
-- variables change.
use Prim.Native.Nat.{ℕ, suc, ◌<◌, ◌≤◌}
use mathlib.Core.Path.{◌≡◌, sym, ap, subst, ◌∙◌}
use mathlib.Core.Bool.{true}
use mathlib.Core.List.{List}
use mathlib.Core.Logic.{◌↔◌}
use native.Mathlib.Omega.{arith}
use native.Mathlib.Decide.{dec_lt}
use lib.ListN.{get_or}
use Rattle.sheet.specs.Contents.{plan_body, actions_body, rule_body}
use Rattle.sheet.specs.Plan.{state_count}
use Rattle.sheet.specs.Actions.{entry_count}
use Rattle.sheet.specs.Rule.{node_count, node_kind, node_x, binders_before}
use Rattle.sheet.specs.WellFormed.{WellFormedRule, WellFormedSheet}
use Rattle.sheet.proofs.Nodes.Binders.{kind_binder, binders_next, binders_rise, binder_one}
use Rattle.calculus.specs.Decode.{formula}
use Rattle.calculus.specs.MeetingMask.{bit}
use Rattle.calculus.proofs.Table1.Monotone.{free, all_states}
use Rattle.calculus.proofs.Table1.Locality.{local_free, monotone}
use Rattle.calculus.proofs.Decoding.Variables.{Above, free_at}
use Rattle.calculus.proofs.Table1.Verdicts.{sheet_in_range}
use Rattle.reference.specs.Internal.Evaluating.{Restartable, NodeMeaning, Ready}

module _ {s : List ℕ} (kept : WellFormedSheet s) where
  rule_of : WellFormedRule (entry_count (actions_body s)) (rule_body s)
  rule_of = kept.bodies_kept.rule_kept

  -- a variable whose binder stands above a node is numbered among those bound before it
  pub above_number : {k n : ℕ} → Above (entry_count (actions_body s)) (rule_body s) k n → k < binders_before (rule_body s) n
  above_number {k} {n} u =
      omega (arith, u.binds.numbered, binders_next (rule_body s) u.at u.binds.is_binder_holds, binders_rise (rule_body s) (suc u.at) n u.below.after)

  -- a binder's own number is the first that is not
  module _ (b : ℕ) (l : b < node_count (rule_body s)) (h : 7 ≤ node_kind (rule_body s) b) (g : node_kind (rule_body s) b < 9) where
    pub bound_number : node_x (rule_body s) b ≡ binders_before (rule_body s) b
    bound_number = rule_of.binder_numbers b l (kind_binder (rule_body s) b h g)

    pub bound_next : binders_before (rule_body s) (suc b) ≡ suc (node_x (rule_body s) b)
    bound_next = omega (arith, bound_number, binders_next (rule_body s) b (kind_binder (rule_body s) b h g))

    bound_before_lem : (m : ℕ) → b < m → node_x (rule_body s) b < binders_before (rule_body s) m
    bound_before_lem m k = omega (arith, bound_next, binders_rise (rule_body s) (suc b) m k)

    pub bound_six : node_x (rule_body s) b < 6
    bound_six = omega (arith, bound_before_lem (node_count (rule_body s)) l, rule_of.few_binders)

  -- binders of one variable are one node
  pub bound_one : (b c : ℕ) → b < node_count (rule_body s) → c < node_count (rule_body s) → 7 ≤ node_kind (rule_body s) b → node_kind (rule_body s) b < 9
      → 7 ≤ node_kind (rule_body s) c → node_kind (rule_body s) c < 9 → node_x (rule_body s) b ≡ node_x (rule_body s) c → b ≡ c
  bound_one b c l m h g i j q =
      binder_one (rule_body s) b c (kind_binder (rule_body s) b h g) (kind_binder (rule_body s) c i j) (sym (bound_number b l h g) ∙ (q ∙ bound_number c m i j))

  -- a set can be given to each variable that a fixed point of a kind binds
  pub restartable : {r : List ℕ} → r ≡ rule_body s → (first kind : ℕ) → first < node_count (rule_body s) → 7 ≤ kind → kind < 9 → Restartable r first kind
  restartable rule first kind l h g =
      subst (λ (x : List ℕ). Restartable x first kind) (sym rule) (record { among = l; six = λ b c q. bound_six b c (omega arith) (omega arith) })

  module _ (b : ℕ) (l : b < node_count (rule_body s)) (words words' : List ℕ) where
    -- the variables free in the node's formula decide
    pub meaning_local : ((k : ℕ) → free k (formula (actions_body s) (rule_body s) b) ≡ true → get_or words k 0 ≡ get_or words' k 0)
        → (t : ℕ) → t < state_count (plan_body s) → NodeMeaning s b words t ↔ NodeMeaning s b words' t
    meaning_local h t r =
        local_free (sheet_in_range kept) (all_states (sheet_in_range kept)) (formula (actions_body s) (rule_body s) b)
        (record { at = λ X f u i. ap (λ (z : ℕ). bit z u) (h X f) }) t r

    pub meaning_same : ((k : ℕ) → k < binders_before (rule_body s) b → get_or words k 0 ≡ get_or words' k 0)
        → (t : ℕ) → t < state_count (plan_body s) → NodeMeaning s b words t ↔ NodeMeaning s b words' t
    meaning_same h = meaning_local (λ k f. h k (above_number (free_at rule_of (actions_body s) b l k f)))

    pub meaning_more : ((k t : ℕ) → t < state_count (plan_body s) → bit (get_or words k 0) t ≡ true → bit (get_or words' k 0) t ≡ true)
        → (t : ℕ) → t < state_count (plan_body s) → NodeMeaning s b words t → NodeMeaning s b words' t
    meaning_more h = monotone (sheet_in_range kept) (formula (actions_body s) (rule_body s) b) (λ X. record { at = h X })

  -- later nodes are fewer
  pub ready_later : {n m : ℕ} {words : List ℕ} → n ≤ m → Ready s n words → Ready s m words
  ready_later h q = record { inside = λ b g. q.inside b (omega arith); around = λ b g. q.around b (omega arith) }

  -- a node that is no fixed point asks nothing of its own
  pub ready_before : {n : ℕ} {words : List ℕ} → node_kind (rule_body s) n < 7 → Ready s (suc n) words → Ready s n words
  ready_before {n} h q = record {
    inside = λ b g l k. q.inside b (later b g (subst (λ (i : ℕ). 7 ≤ i) (sym k) (omega arith))) l k;
    around = λ b g l k. q.around b (later b g (subst (λ (i : ℕ). 7 ≤ i) (sym k) (omega arith))) l k;
  }
    where
      later : (b : ℕ) → n ≤ b → 7 ≤ node_kind (rule_body s) b → suc n ≤ b
      later b g k =
          elim (dec_lt n b) [
            | yes l ↦ l
            | no l ↦ let q : b ≡ n = omega arith in absurd (omega (arith, ap (node_kind (rule_body s)) q))
          ]

  -- the fixed points from n on, up to m by one context and from m on by another that agrees with it on the variables bound before m
  pub ready_join : {n m : ℕ} {words words' : List ℕ} → Ready s n words → Ready s m words' → ((k : ℕ) → k < binders_before (rule_body s) m → get_or words' k 0 ≡ get_or words k 0) → Ready s n words'
  ready_join {n} {m} {words} {words'} q q' h = record {
    inside = λ b g l k. elim (dec_lt b m) [ yes c ↦ (λ t r i. (to b l c t r).0 (q.inside b g l k t r (sym (word b l c (omega arith) (omega arith) t) ∙ i))) | no c ↦ q'.inside b (omega arith) l k ];
    around = λ b g l k. elim (dec_lt b m) [ yes c ↦ (λ t r i. word b l c (omega arith) (omega arith) t ∙ q.around b g l k t r ((to b l c t r).1 i)) | no c ↦ q'.around b (omega arith) l k ];
  }
    where
      to : (b : ℕ) → b < node_count (rule_body s) → b < m → (t : ℕ) → t < state_count (plan_body s) → NodeMeaning s b words t ↔ NodeMeaning s b words' t
      to b l c = meaning_same b l words words' (λ k i. sym (h k (omega (arith, binders_rise (rule_body s) b m (omega arith)))))

      word : (b : ℕ) → b < node_count (rule_body s) → b < m → 7 ≤ node_kind (rule_body s) b → node_kind (rule_body s) b < 9 → (t : ℕ)
          → bit (get_or words' (node_x (rule_body s) b) 0) t ≡ bit (get_or words (node_x (rule_body s) b) 0) t
      word b l c u v t = ap (λ (z : ℕ). bit z t) (h (node_x (rule_body s) b) (bound_before_lem b l u v m c))
