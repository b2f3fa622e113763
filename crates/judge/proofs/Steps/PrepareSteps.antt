-- What the code of preparing shows.
use Rattle.std.proofs.Common.{◌≡◌, ℕ, ◌+◌, ◌<◌, Bool, true, List, length, get_or, set, sym, refl, subst, arith, get_or-set_other, get_or-set_same}
use native.Mathlib.Decide.{ℕ_discrete}
use Rattle.graph.proofs.Search.Outgoing.{is_outgoing}
use Rattle.graph.specs.Index.{Sized}
use Rattle.graph.specs.declared.Index.{Index as PlanIndex}
use Rattle.sheet.specs.Bytes.{byte}
use Rattle.sheet.specs.Contents.{head_length, plan_length, plan_body, actions_body, rule_body}
use Rattle.sheet.specs.Plan.{state_count, label}
use Rattle.sheet.specs.Reading.{sheet_check}
use Rattle.std.specs.Prelude.{Ok}
use Rattle.sheet.proofs.Acceptance.Parts.{plan_kept, rule_kept, slice_small}
use Rattle.judge.specs.Internal.Index.{PreparedState, Prepared}
use Rattle.judge.specs.declared.index.Index.{Index}
use Rattle.graph.specs.Search.{found_none, index_left, explored}
use Rattle.graph.specs.Explored.{Indexed, Explored, ExploreRequires}
use Rattle.graph.proofs.Search.SearchRight.{explore_right}
use Rattle.judge.specs.Internal.Preparing.{Headed, BindersAsked, Masks}

-- one more place is filled, after those below it
pub filled_more : (R : ℕ → ℕ → Type 0) (l : List ℕ) (n v : ℕ) → n < length l → ((k : ℕ) → k < n → R k (get_or l k 0)) → R n v
    → (k : ℕ) → k < n + 1 → R k (get_or (set l n v) k 0)
filled_more R l n v h filled here k m =
    elim (ℕ_discrete k n) [
      | yes e ↦ rw (e, get_or-set_same l n v 0 h) here
      | no e ↦ rw (get_or-set_other l n k v 0 e) (filled k (omega (arith, e)))
    ]

pub binders_asked : (s : List ℕ) {r : List ℕ} → sheet_check s ≡ Ok tt → r ≡ rule_body s → BindersAsked r
binders_asked s e rule = rw rule (record { few_nodes = (rule_kept s e).few_nodes; few_binders = (rule_kept s e).few_binders })

-- ---- all steps together

-- what the search leaves, of the plan of an accepted sheet
pub searched : (s : List ℕ) {p : List ℕ} {index index' : PlanIndex} {state : ℕ} {r : Bool} → p ≡ plan_body s → sheet_check s ≡ Ok tt → ((i : ℕ) → byte s i < 256)
    → state < state_count (plan_body s) → Sized index
    → r ≡ found_none (explored p index state) → index' ≡ index_left (explored p index state) → Explored (plan_body s) index index' state r
searched s {p} {index} {index'} {state} {r} plan e bytes below sized found left =
    subst (λ (x : List ℕ). Explored x index index' state r) plan (explore_right p index index' state r given found left)
  where
    here : ExploreRequires (plan_body s) index state
    here = record { kept = plan_kept s e; few_actions = slice_small s bytes head_length (plan_length s) 1; sized = sized; state_below = below }

    given : ExploreRequires p index state
    given = subst (λ (x : List ℕ). ExploreRequires x index state) (sym plan) here

-- what the search says of a state, with a mask for each noted action
pub prepared_state : (s : List ℕ) → sheet_check s ≡ Ok tt → {u : ℕ} {index : Index} → Indexed (plan_body s) index.plan u
    → Masks (plan_body s) (actions_body s) index.plan.actions index.masks → PreparedState s index u
prepared_state s e {u} k m = record {
  begins = k.begins;
  ends = k.ends;
  masks_are = λ i a b.
      m.filled (label (plan_body s) i) ((plan_kept s e).label_below i (is_outgoing (plan_body s) (plan_kept s e) u i a b).0) (k.noted i a b);
}

pub masks_on : (s : List ℕ) {p a : List ℕ} {noted : List Bool} {masks : List ℕ} → p ≡ plan_body s → a ≡ actions_body s → Masks p a noted masks
    → Masks (plan_body s) (actions_body s) noted masks
masks_on s {p} {a} {noted} {masks} ep ea m =
    subst (λ (y : List ℕ). Masks y (actions_body s) noted masks) ep (subst (λ (y : List ℕ). Masks p y noted masks) ea m)

-- the index of the rule, with what the search left and the masks
pub prepared : (s : List ℕ) → sheet_check s ≡ Ok tt → {state : ℕ} {index : Index} {before : PlanIndex} → Headed s index
    → Explored (plan_body s) before index.plan state true → Masks (plan_body s) (actions_body s) index.plan.actions index.masks
    → Prepared s index state
prepared s e h x m = record {
  offset_is = h.offset_is;
  nodes_are = h.nodes_are;
  marks_are = h.marks_are;
  binders_are = h.binders_are.filled;
  states_are = λ u r. prepared_state s e (x.reached refl u r) m;
}
