-- Document 02 (h), of every call of `convert`: which number it gives, exactly, what it leaves, and what the plan body says. Shown by
-- conversion_correct of proofs/Statements/ConversionCorrect.antt.
use Rattle.std.specs.Prelude.{ℕ, ◌<◌, ◌≤◌, ◌≡◌, ◌↔◌, ◌≢◌, ◌⊎◌, length, take, drop}
use mathlib.Core.List.{List, ◌++◌, Memᴰ}
use Rattle.sheet.specs.Plan.{state_count, action_count}
use Rattle.sheet.specs.WellFormed.{WellFormedPlan}
use Rattle.sheet.specs.TransitionSystem.{LabelledTransition, plan_of}
use Rattle.aut.specs.Texts.{FirstLine, TransitionLine, ReadsText}
use Rattle.aut.specs.Plans.{labels_of, transitions_of, SaidBy, LabelsNumbered, TransitionsMerged, body_of}
use Rattle.aut.specs.Converting.{Converted, reported_conversion, Converts}

-- no 37: the text is readable, its first state is 0, and it has as many lines after the first as it says
pub record WellFormedText (text : List ℕ) (h : FirstLine) (xs : List TransitionLine) : Type 0 where
  pub reads : ReadsText text h xs
  pub starts : h.first ≡ 0
  pub counted : h.transitions ≡ length xs

-- no 38: every state, the first included, is below the stated number
pub record StatesInRange (h : FirstLine) (xs : List TransitionLine) : Type 0 where
  pub first_below : h.first < h.states
  pub from_below : (x : TransitionLine) → Memᴰ x xs → x.from < h.states
  pub to_below : (x : TransitionLine) → Memᴰ x xs → x.to < h.states

-- no 39: nothing is over the plan limits
pub record WithinLimits (h : FirstLine) (xs : List TransitionLine) : Type 0 where
  pub few_states : h.states ≤ 128
  pub few_labels : length (labels_of xs) ≤ 255
  pub few_transitions : length (transitions_of xs) ≤ 2048

-- "It refuses unreadable text, a transition count other than the number of lines after the first, or a first state other than 0 with 37, a
-- state, the first included, not below the stated number with 38, and anything over the plan limits with 39, in that order, before a short
-- output.": the number that a call on a text and an output of so many bytes is refused with
pub data RefusedWith (text : List ℕ) (room : ℕ) : ℕ → Type 0 where
  no_reading : ((h : FirstLine) (xs : List TransitionLine) → ReadsText text h xs → ⊥) → RefusedWith text room 37
  other_count : (h : FirstLine) (xs : List TransitionLine) → ReadsText text h xs → h.transitions ≢ length xs → RefusedWith text room 37
  other_first : (h : FirstLine) (xs : List TransitionLine) → ReadsText text h xs → h.first ≢ 0 → RefusedWith text room 37
  first_over : (h : FirstLine) (xs : List TransitionLine) → WellFormedText text h xs → h.states ≤ h.first → RefusedWith text room 38
  state_over :
      (h : FirstLine) (xs : List TransitionLine) → WellFormedText text h xs → (x : TransitionLine) → Memᴰ x xs
      → (h.states ≤ x.from) ⊎ (h.states ≤ x.to) → RefusedWith text room 38
  over_limits :
      (h : FirstLine) (xs : List TransitionLine) → WellFormedText text h xs → StatesInRange h xs
      → (128 < h.states) ⊎ ((255 < length (labels_of xs)) ⊎ (2048 < length (transitions_of xs))) → RefusedWith text room 39
  -- document 01: "22: output buffer too short (calls that write a sheet or a body)."
  output_short :
      (h : FirstLine) (xs : List TransitionLine) → WellFormedText text h xs → StatesInRange h xs → WithinLimits h xs
      → room < length (body_of h.states xs) → RefusedWith text room 22

-- the text says h and xs, no refusal turns it down, and the output has room for the body
pub record AcceptedWith (text : List ℕ) (room : ℕ) (h : FirstLine) (xs : List TransitionLine) : Type 0 where
  pub well_formed : WellFormedText text h xs
  pub states_in_range_holds : StatesInRange h xs
  pub within_limits_holds : WithinLimits h xs
  pub room_enough : length (body_of h.states xs) ≤ room

-- what the plan body says
pub record PlanOfText (h : FirstLine) (xs : List TransitionLine) (body : List ℕ) : Type 0 where
  -- it is accepted as a plan
  pub accepted : WellFormedPlan body
  -- "S is the stated number, A the number of different labels"; that they are, LabelsNumbered says
  pub states_are : state_count body ≡ h.states
  pub actions_are : action_count body ≡ length (labels_of xs)
  -- "and the set of transitions must be the file's own": a transition is in the body exactly when a line says it
  pub exactly : (t : LabelledTransition) → Memᴰ t (plan_of body).transitions ↔ SaidBy xs t

-- `convert` on a text answered so, and left out' where out had been
pub record ConversionAnswered (text out : List ℕ) (answer : Converted) (out' : List ℕ) : Type 0 where
  -- a number k other than 0 is given exactly where the call is refused with it
  pub refused_with : (k : ℕ) → 1 ≤ k → ((reported_conversion answer).number ≡ k) ↔ RefusedWith text (length out) k
  -- number 0 exactly where the text says something that no refusal turns down
  pub accepted_with :
      ((reported_conversion answer).number ≡ 0)
      ↔ ((h : FirstLine) × (xs : List TransitionLine) × AcceptedWith text (length out) h xs)
  -- document 01: "An accepted call gives number 0 and place 0."; of 22, 37, 38 and 39 too the place is 0: "Other places are 0."
  pub place_none : (reported_conversion answer).place ≡ 0
  -- the length of the body, its bytes, "output bytes past what is written stay unchanged" (document 02 (c)), and what it says
  pub size_is :
      (h : FirstLine) (xs : List TransitionLine) → AcceptedWith text (length out) h xs
      → (reported_conversion answer).size ≡ length (body_of h.states xs)
  pub output_is :
      (h : FirstLine) (xs : List TransitionLine) → AcceptedWith text (length out) h xs
      → out' ≡ body_of h.states xs ++ drop (reported_conversion answer).size out
  pub says :
      (h : FirstLine) (xs : List TransitionLine) → AcceptedWith text (length out) h xs
      → PlanOfText h xs (take (reported_conversion answer).size out')
  -- document 01: "A refused call gives .. lengths and any further result number 0 .. and changes no buffer."
  pub refused : (reported_conversion answer).number ≢ 0 → ((reported_conversion answer).size ≡ 0) × (out' ≡ out)

-- of every call; and of all lines, "Labels get action numbers by first appearance; equal transitions become one; the rest are put in order"
pub record ConversionCorrect : Type 0 where
  pub calls :
      (text out : List ℕ) (answer : Converted) (out' : List ℕ) → Converts text out answer out'
      → ConversionAnswered text out answer out'
  pub labels : (xs : List TransitionLine) → LabelsNumbered xs
  pub transitions : (xs : List TransitionLine) → TransitionsMerged xs
  -- 6,148 bytes are enough for every body: 4 and 2,048 transitions of three
  pub longest : (h : FirstLine) (xs : List TransitionLine) → WithinLimits h xs → length (body_of h.states xs) ≤ 6148
