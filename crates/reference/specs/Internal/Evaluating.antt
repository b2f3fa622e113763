-- What private functions ask and promise. No promise of a public call cites these.
use Rattle.std.specs.Prelude.{ℕ, ◌^◌, ◌<◌, ◌≤◌, ◌≡◌, Bool, true, List, ◌⊎◌, length, get_or}
use Rattle.sheet.specs.Contents.{plan_body, actions_body, rule_body}
use Rattle.sheet.specs.Plan.{state_count, transition_count, origin, label, target}
use Rattle.sheet.specs.Rule.{node_count, node_kind, node_x, binders_before}
use Rattle.calculus.specs.Meaning.{Holds}
use Rattle.sheet.specs.TransitionSystem.{plan_of}
use Rattle.calculus.specs.Decode.{formula}
use Rattle.calculus.specs.MeetingMask.{bit, meeting_mask}

-- the word w is the set of the states below S that are Q
pub record Members (S w : ℕ) (Q : ℕ → Type 0) : Type 0 where
  pub small : w < 2 ^ S
  pub sound : (t : ℕ) → t < S → bit w t ≡ true → Q t
  pub complete : (t : ℕ) → t < S → Q t → bit w t ≡ true

-- masks has for each of the count actions the action formulas that it meets
pub record ActionMasks (a : List ℕ) (count : ℕ) (masks : List ℕ) : Type 0 where
  pub at : (action : ℕ) → action < count → get_or masks action 0 ≡ meeting_mask count a action

-- one of the first count transitions leads from s into the set states, by an action that meets the formula of the entry
pub record TransitionInto (p masks : List ℕ) (entry states count s : ℕ) : Type 0 where
  pub number : ℕ
  pub before : number < count
  pub from : origin p number ≡ s
  pub met : bit (get_or masks (label p number) 0) entry ≡ true
  pub into : bit states (target p number) ≡ true

-- w is the set of the states from which a transition so leads
abbrev pub Preimage : List ℕ → List ℕ → ℕ → ℕ → ℕ → Type 0
Preimage p masks entry states w = Members (state_count p) w (TransitionInto p masks entry states (transition_count p))

-- the context that the words give
abbrev pub context_of : List ℕ → ℕ → ℕ → Bool
context_of words X t = bit (get_or words X 0) t

-- six sets of states
pub record SixSets (S : ℕ) (words : List ℕ) : Type 0 where
  pub six : length words ≡ 6
  pub below : (X : ℕ) → get_or words X 0 < 2 ^ S

-- first is a node, and what a fixed point of the kind binds is one of six variables
pub record Restartable (r : List ℕ) (first kind : ℕ) : Type 0 where
  pub among : first < node_count r
  pub six : (b : ℕ) → b < node_count r → node_kind r b ≡ kind → node_x r b < 6

-- the variables that fixed points of the kind bind at the nodes from first up to end have the set v, the others what they had
pub record Restarted (r : List ℕ) (first end kind v : ℕ) (words words' : List ℕ) : Type 0 where
  pub sized : length words' ≡ length words
  pub anew : (b : ℕ) → first ≤ b → b < end → node_kind r b ≡ kind → node_x r b < length words → get_or words' (node_x r b) 0 ≡ v
  pub same :
      (k : ℕ) → ((b : ℕ) → first ≤ b → b < end → node_kind r b ≡ kind → node_x r b ≡ k → ⊥) → get_or words' k 0 ≡ get_or words k 0
  pub each : (k : ℕ) → (get_or words' k 0 ≡ v) ⊎ (get_or words' k 0 ≡ get_or words k 0)

-- the meaning of node n by Table 1
abbrev pub NodeMeaning : List ℕ → ℕ → List ℕ → ℕ → Type 0
NodeMeaning s n words = Holds (plan_of (plan_body s)) (formula (actions_body s) (rule_body s) n) (context_of words)

-- Each fixed point from node n on can go on from the set of its variable: a least one from a set inside it, a greatest one from a set
-- around it.
pub record Ready (s : List ℕ) (n : ℕ) (words : List ℕ) : Type 0 where
  pub inside : (b : ℕ) → n ≤ b → b < node_count (rule_body s) → node_kind (rule_body s) b ≡ 7 → (t : ℕ) → t < state_count (plan_body s)
      → bit (get_or words (node_x (rule_body s) b) 0) t ≡ true → NodeMeaning s b words t
  pub around : (b : ℕ) → n ≤ b → b < node_count (rule_body s) → node_kind (rule_body s) b ≡ 8 → (t : ℕ) → t < state_count (plan_body s)
      → NodeMeaning s b words t → bit (get_or words (node_x (rule_body s) b) 0) t ≡ true

-- node n, and the sets of the variables
pub record Evaluating (s : List ℕ) (n : ℕ) (words : List ℕ) : Type 0 where
  pub among : n < node_count (rule_body s)
  pub sets : SixSets (state_count (plan_body s)) words
  pub ready : Ready s n words

-- w is the meaning of node n, the sets of the variables bound before n are as they were, and each fixed point can go on
pub record Evaluated (s : List ℕ) (n : ℕ) (words words' : List ℕ) (w : ℕ) : Type 0 where
  pub are : Members (state_count (plan_body s)) w (NodeMeaning s n words)
  pub same : (k : ℕ) → k < binders_before (rule_body s) n → get_or words' k 0 ≡ get_or words k 0
  pub sets : SixSets (state_count (plan_body s)) words'
  pub ready : Ready s n words'
