-- Document 02 (c): "Some run matching R ends where the rule p holds", and "Every run". A run is a path of transitions, of a plan that may
-- have loops, and is told here by the states where it begins and ends; nothing here knows of rules or of their translation.
use Rattle.std.specs.Prelude.{ℕ, ◌≡◌, Bool, true, false, ◌↔◌}
use mathlib.Core.List.{List, [], ◌∷◌, ◌++◌, Memᴰ}
use Rattle.sheet.specs.TransitionSystem.{LabelledTransition, Plan}
use Rattle.calculus.specs.Decode.{action_formula}
use Rattle.calculus.specs.Meaning.{meets}
use Rattle.patterns.specs.Patterns.{Pattern, action, sequence, choice, repetition}

-- `Run P a R s u`: some path of transitions of the plan P from state s to state u matches the pattern R, over the action table a
pub data Run (P : Plan) (a : List ℕ) : Pattern → ℕ → ℕ → Type 0 where
  -- an action: one transition whose action meets the formula of the entry
  step : {e s u : ℕ} (t : LabelledTransition) → Memᴰ t P.transitions → t.origin ≡ s
      → meets P.actions (action_formula a e) t.action ≡ true → t.target ≡ u → Run P a (action e) s u
  -- "one part after another"
  then : {R Q : Pattern} {s m u : ℕ} → Run P a R s m → Run P a Q m u → Run P a (sequence R Q) s u
  -- "a choice of two"
  first : {R Q : Pattern} {s u : ℕ} → Run P a R s u → Run P a (choice R Q) s u
  second : {R Q : Pattern} {s u : ℕ} → Run P a Q s u → Run P a (choice R Q) s u
  -- "any number of times": none, or once and then any number of times
  none : {R : Pattern} {s : ℕ} → Run P a (repetition R) s s
  more : {R : Pattern} {s m u : ℕ} → Run P a R s m → Run P a (repetition R) m u → Run P a (repetition R) s u

-- some run matching R from s ends where p holds
pub record SomeRun (P : Plan) (a : List ℕ) (R : Pattern) (p : ℕ → Type 0) (s : ℕ) : Type 0 where
  pub end : ℕ
  pub run : Run P a R s end
  pub ends : p end

-- every run matching R from s ends where p holds
pub record EveryRun (P : Plan) (a : List ℕ) (R : Pattern) (p : ℕ → Type 0) (s : ℕ) : Type 0 where
  pub ends : (u : ℕ) → Run P a R s u → p u

-- "A leading byte says 0 for some run, 1 for every run."
unfoldable pub Sentence : Bool → Plan → List ℕ → Pattern → (ℕ → Type 0) → ℕ → Type 0
Sentence false P a R p s = SomeRun P a R p s
Sentence true P a R p s = EveryRun P a R p s

-- ---- runs as paths: a run is a list of transitions, one after another, that the pattern matches; shown by runs_are_paths of
-- proofs/Meaning/Paths.antt

-- `TransitionPath P ts s u`: ts are transitions of P, each from where the one before it ends, and lead from state s to state u
pub data TransitionPath (P : Plan) : List LabelledTransition → ℕ → ℕ → Type 0 where
  empty : {s : ℕ} → TransitionPath P [] s s
  onward : {ts : List LabelledTransition} {s u : ℕ} (t : LabelledTransition) → Memᴰ t P.transitions → t.origin ≡ s
      → TransitionPath P ts t.target u → TransitionPath P (t ∷ ts) s u

-- `Matches P a R ts`: the pattern R, as a regular expression over the action table a, matches the actions of the transitions ts
pub data Matches (P : Plan) (a : List ℕ) : Pattern → List LabelledTransition → Type 0 where
  -- an action: exactly one transition, whose action meets the formula of the entry
  single : {e : ℕ} (t : LabelledTransition) → meets P.actions (action_formula a e) t.action ≡ true → Matches P a (action e) (t ∷ [])
  -- "one part after another": the list splits into two
  split : {R Q : Pattern} {ts : List LabelledTransition} (front rest : List LabelledTransition) → ts ≡ front ++ rest
      → Matches P a R front → Matches P a Q rest → Matches P a (sequence R Q) ts
  -- "a choice of two": one of the two matches
  by_first : {R Q : Pattern} {ts : List LabelledTransition} → Matches P a R ts → Matches P a (choice R Q) ts
  by_second : {R Q : Pattern} {ts : List LabelledTransition} → Matches P a Q ts → Matches P a (choice R Q) ts
  -- "any number of times": the empty list, or a list that splits into one time and any number of times
  zero_times : {R : Pattern} → Matches P a (repetition R) []
  more_times : {R : Pattern} {ts : List LabelledTransition} (front rest : List LabelledTransition) → ts ≡ front ++ rest
      → Matches P a R front → Matches P a (repetition R) rest → Matches P a (repetition R) ts

-- a path from s to u that R matches
pub record MatchingPath (P : Plan) (a : List ℕ) (R : Pattern) (s u : ℕ) : Type 0 where
  pub path : List LabelledTransition
  pub leads : TransitionPath P path s u
  pub matches : Matches P a R path

-- there is a run exactly where there is such a path
abbrev pub RunsArePaths : Type 0
RunsArePaths = (P : Plan) (a : List ℕ) (R : Pattern) (s u : ℕ) → Run P a R s u ↔ MatchingPath P a R s u
