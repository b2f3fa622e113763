-- Which refusals the checks of a sheet and of three bodies give, and at which places; when they give which is in specs/RefusalOrder.antt.
-- Shown by given_refusals of proofs/Acceptance/Numbers.antt.
use Rattle.std.specs.Prelude.{ℕ, ◌<◌, ◌≤◌, ◌≡◌, Bool, true, false, List, ◌⊎◌, ◌≢◌, Err}
use Rattle.sheet.specs.Contents.{plan_body, actions_body, rule_body}
use Rattle.sheet.specs.Plan.{action_count, transition_count, transition_faulty}
use Rattle.sheet.specs.Actions.{entry_count, entry_faulty}
use Rattle.sheet.specs.Rule.{node_count, binding_faulty}
use Rattle.sheet.specs.FirstFault.{RuleFault}
use Rattle.sheet.specs.Refusals.{number_of, place_of}
use Rattle.sheet.specs.Reading.{sheet_check}
use Rattle.sheet.specs.Writing.{write_check}
use Rattle.sheet.specs.declared.Refusal.{Refusal}

-- of the numbers below count, n is the lowest at which the test holds
pub record Lowest (test : ℕ → Bool) (count n : ℕ) : Type 0 where
  pub among : n < count
  pub faulty : test n ≡ true
  pub none_before : (i : ℕ) → i < n → test i ≡ false

-- the place of refusal x, of the bodies p, a, r
pub record Placed (p a r : List ℕ) (x : Refusal) : Type 0 where
  -- "The place is the lowest faulty transition, entry or node for 5, 7, 10"
  pub transition : number_of x ≡ 5 → Lowest (transition_faulty p) (transition_count p) (place_of x)
  pub entry : number_of x ≡ 7 → Lowest (entry_faulty (action_count p) a) (entry_count a) (place_of x)
  pub node : number_of x ≡ 10 → Lowest (binding_faulty r) (node_count r) (place_of x)
  -- "for 9 the first fault met in preorder, a second child's number being looked at after the first child's part, a node left over being
  -- faulty itself, a missing child the fault of its parent"
  pub in_preorder : number_of x ≡ 9 → RuleFault (entry_count a) r (place_of x)
  -- "Other places are 0."
  pub others : number_of x ≢ 5 → number_of x ≢ 7 → number_of x ≢ 9 → number_of x ≢ 10 → place_of x ≡ 0

-- of every sheet, and of all bodies and rooms of an output
pub record GivenRefusals : Type 0 where
  -- "Reader and guard check give 1 to 10"
  pub numbers : (s : List ℕ) (x : Refusal) → sheet_check s ≡ Err x → (1 ≤ number_of x) × (number_of x ≤ 10)
  pub places : (s : List ℕ) (x : Refusal) → sheet_check s ≡ Err x → Placed (plan_body s) (actions_body s) (rule_body s) x
  -- "the writer 4 to 10, then 22"
  pub writer_numbers :
      (p a r : List ℕ) (room : ℕ) (x : Refusal) → write_check p a r room ≡ Err x
      → ((4 ≤ number_of x) × (number_of x ≤ 10)) ⊎ (number_of x ≡ 22)
  pub writer_places : (p a r : List ℕ) (room : ℕ) (x : Refusal) → write_check p a r room ≡ Err x → Placed p a r x
