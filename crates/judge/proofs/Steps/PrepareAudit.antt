-- What the code that prepares an audit shows.
use Rattle.std.proofs.Common.{◌≡◌, ℕ, ◌<◌, ◌≤◌, Bool, true, false, List, sym, refl, subst, arith}
use Rattle.sheet.specs.Bytes.{byte}
use Rattle.sheet.specs.Contents.{head_length, plan_length, plan_body, actions_body, rule_body}
use Rattle.sheet.specs.Rule.{node_count, binder_node, subtree_end}
use Rattle.sheet.specs.Reading.{sheet_check}
use Rattle.std.specs.Prelude.{Ok}
use Rattle.sheet.proofs.Acceptance.Parts.{plan_kept, rule_kept, slice_small}
use Rattle.sheet.proofs.Nodes.Children.{node_subtree}
use Rattle.sheet.proofs.Nodes.Subtrees.{subtree_end_lem}
use Rattle.graph.specs.Search.{found_none, index_left, explored_all}
use Rattle.graph.specs.Explored.{ExploredAll, ExploreAllRequires}
use Rattle.graph.specs.declared.Index.{Index as PlanIndex}
use Rattle.graph.proofs.Search.SearchAll.{explore_all_right}
use Rattle.judge.specs.declared.index.Index.{Index}
use Rattle.judge.specs.Internal.Preparing.{Binders, EndsAsked, Masks, RuleTold, StatesAsked, StatesTold, looped, told}
use Rattle.judge.proofs.Steps.BinderSteps.{binder_below}
use Rattle.judge.proofs.Steps.PrepareSteps.{prepared_state}

-- ---- the rule

module _ (s : List ℕ) (e : sheet_check s ≡ Ok tt) where
  end_within_holds : (n : ℕ) → n < node_count (rule_body s) → subtree_end (rule_body s) n ≤ 64
  end_within_holds n h =
      let w = node_subtree (rule_kept s e) n h in
      omega (arith, subtree_end_lem w.whole (omega (arith, w.within, (rule_kept s e).few_nodes)), w.within, (rule_kept s e).few_nodes)

  pub ends_asked : {r binders : List ℕ} → r ≡ rule_body s → Binders (rule_body s) binders → EndsAsked r binders
  ends_asked {r} {binders} q h = subst (λ (x : List ℕ). EndsAsked x binders) (sym q) (record {
    few_binders = (rule_kept s e).few_binders;
    binders_are = h;
    ends_small = λ k l. end_within_holds (binder_node (rule_body s) k) (binder_below (rule_body s) k l);
  })

-- ---- the states

module _ {s : List ℕ} {index : Index} {starts : List ℕ} (asked : StatesAsked s index starts) where
  -- what the search leaves, of the plan of an accepted sheet
  pub searched_all : {p : List ℕ} {index' : PlanIndex} {r : Bool} → p ≡ plan_body s → ((i : ℕ) → byte s i < 256)
      → r ≡ found_none (explored_all p index.plan starts) → index' ≡ index_left (explored_all p index.plan starts)
      → ExploredAll (plan_body s) index.plan index' starts r
  searched_all {p} {index'} {r} plan bytes found left =
      subst (λ (x : List ℕ). ExploredAll x index.plan index' starts r) plan (explore_all_right p index.plan index' starts r given found left)
    where
      here : ExploreAllRequires (plan_body s) index.plan starts
      here = record {
        kept = plan_kept s asked.accepted;
        few_actions = slice_small s bytes head_length (plan_length s) 1;
        sized = asked.rule_told.headed.size;
        starts_below = asked.starts_below;
      }

      given : ExploreAllRequires p index.plan starts
      given = subst (λ (x : List ℕ). ExploreAllRequires x index.plan starts) (sym plan) here

  pub states_looped : {index' : PlanIndex} {after : Index} → ExploredAll (plan_body s) index.plan index' starts false → StatesTold s starts after false
  states_looped x = let l = x.looped refl in looped refl l.0 l.1 l.2

  -- of the rule the index says what it did
  pub states_told : {after : Index} → RuleTold s after → ExploredAll (plan_body s) index.plan after.plan starts true
      → Masks (plan_body s) (actions_body s) after.plan.actions after.masks → StatesTold s starts after true
  states_told r x m = told refl r (λ u h. (
    x.free refl u h,
    record {
      offset_is = r.headed.offset_is;
      nodes_are = r.headed.nodes_are;
      marks_are = r.headed.marks_are;
      binders_are = r.headed.binders_are.filled;
      states_are = λ v w. prepared_state s asked.accepted (x.reached refl u h v w) m;
    },
  ))
