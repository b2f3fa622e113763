-- Document 02 (c), of every call of `translate`: which number it gives, exactly, what it leaves, and "On every plan, loops included, the
-- translated rule must hold by Table 1 at exactly the states where the sentence about runs does." Shown by translation_correct of
-- proofs/Statements/TranslationCorrect.antt.
use Rattle.std.specs.Prelude.{ℕ, ◌<◌, ◌≤◌, ◌≡◌, Bool, List, ◌++◌, ◌↔◌, ◌⊎◌, ◌≢◌, length, take, drop}
use Rattle.sheet.specs.Contents.{plan_body, actions_body, rule_body}
use Rattle.sheet.specs.Plan.{state_count}
use Rattle.sheet.specs.Actions.{entry_count}
use Rattle.sheet.specs.WellFormed.{WellFormedSheet}
use Rattle.sheet.specs.RefusalOrder.{SheetFault, First}
use Rattle.sheet.specs.TransitionSystem.{plan_of}
use Rattle.sheet.specs.Writing.{sheet_of}
use Rattle.calculus.specs.Trees.{tree_size, binders, encode}
use Rattle.calculus.specs.Verdict.{Verdict}
use Rattle.patterns.specs.Patterns.{Pattern, pattern_bytes, EntriesBelow}
use Rattle.patterns.specs.Runs.{Sentence}
use Rattle.patterns.specs.Translating.{Translated, tree_for, reported_translation, Translates}

-- on the accepted sheet s the pattern says: some run, or every run, matching R
pub record Says (s pattern : List ℕ) (every : Bool) (R : Pattern) : Type 0 where
  pub accepted : WellFormedSheet s
  pub bytes : pattern ≡ pattern_bytes every R
  pub entries_below : EntriesBelow (entry_count (actions_body s)) R

-- the result has at most 64 nodes and 6 binders
pub record Fits (s : List ℕ) (every : Bool) (R : Pattern) : Type 0 where
  pub few_nodes : tree_size (tree_for s every R) ≤ 64
  pub few_binders : binders (tree_for s every R) ≤ 6

-- "It refuses a malformed pattern (an entry not below the count and bytes left over included) with 30 and a result over 64 nodes or 6
-- binders with 31, in that order, after the sheet's refusals and before 22.": the number and the place that a call on the sheet s, a
-- pattern and an output of so many bytes is refused with. "Other places are 0."
pub data RefusedWith (s pattern : List ℕ) (room : ℕ) : ℕ → ℕ → Type 0 where
  -- "the sheet's refusals": 1 to 10
  faulty_sheet : {k m : ℕ} → First (SheetFault s) k m → RefusedWith s pattern room k m
  unreadable : WellFormedSheet s → ((every : Bool) (R : Pattern) → Says s pattern every R → ⊥) → RefusedWith s pattern room 30 0
  large : (every : Bool) (R : Pattern) → Says s pattern every R
      → (64 < tree_size (tree_for s every R)) ⊎ (6 < binders (tree_for s every R)) → RefusedWith s pattern room 31 0
  -- "22: output buffer too short (calls that write a sheet or a body)."
  output_short : (every : Bool) (R : Pattern) → Says s pattern every R → Fits s every R
      → room < length (encode (tree_for s every R)) → RefusedWith s pattern room 22 0

-- the pattern says R, the result fits, and the output has room for it
pub record AcceptedWith (s pattern : List ℕ) (room : ℕ) (every : Bool) (R : Pattern) : Type 0 where
  pub says : Says s pattern every R
  pub fits : Fits s every R
  pub room_enough : length (encode (tree_for s every R)) ≤ room

-- the sheet s with the rule body r in place of its own; its plan and its action formulas stay
abbrev pub with_rule : List ℕ → List ℕ → List ℕ
with_rule s r = sheet_of (plan_body s) (actions_body s) r

-- what the rule body r says, put in place of the rule of s
pub record MeansSentence (s : List ℕ) (every : Bool) (R : Pattern) (r : List ℕ) : Type 0 where
  -- it is the rule of an accepted sheet, with the plan and the actions of s
  pub accepted : WellFormedSheet (with_rule s r)
  pub plan_same : plan_body (with_rule s r) ≡ plan_body s
  pub actions_same : actions_body (with_rule s r) ≡ actions_body s
  pub rule_is : rule_body (with_rule s r) ≡ r
  -- it holds by Table 1 at a state of the plan exactly where some run (with the leading byte 1: every run) matching R from there ends where
  -- the rule of s holds by Table 1
  pub holds :
      (state : ℕ) → state < state_count (plan_body s)
      → Verdict (with_rule s r) state ↔ Sentence every (plan_of (plan_body s)) (actions_body s) R (Verdict s) state

-- `translate` on the sheet s and a pattern answered so, and left out' where out had been
pub record TranslationAnswered (s pattern out : List ℕ) (answer : Translated) (out' : List ℕ) : Type 0 where
  -- a number k other than 0 and a place m are given exactly where the call is refused with them
  pub refused_with :
      (k m : ℕ) → 1 ≤ k
      → (((reported_translation answer).number ≡ k) × ((reported_translation answer).place ≡ m)) ↔ RefusedWith s pattern (length out) k m
  -- number 0 exactly where the pattern is readable, the result fits and the output has room for it
  pub accepted_with :
      ((reported_translation answer).number ≡ 0) ↔ ((every : Bool) × (R : Pattern) × AcceptedWith s pattern (length out) every R)
  -- "An accepted call gives number 0 and place 0."
  pub place_none : (reported_translation answer).number ≡ 0 → (reported_translation answer).place ≡ 0
  -- the length of the rule body, its bytes, "output bytes past what is written stay unchanged", and what they mean
  pub size_is :
      (every : Bool) (R : Pattern) → AcceptedWith s pattern (length out) every R
      → (reported_translation answer).size ≡ length (encode (tree_for s every R))
  pub output_is :
      (every : Bool) (R : Pattern) → AcceptedWith s pattern (length out) every R
      → out' ≡ encode (tree_for s every R) ++ drop (reported_translation answer).size out
  pub means :
      (every : Bool) (R : Pattern) → AcceptedWith s pattern (length out) every R
      → MeansSentence s every R (take (reported_translation answer).size out')
  -- "A refused call gives .. any further result number 0 .. and changes no buffer."
  pub refused : (reported_translation answer).number ≢ 0 → ((reported_translation answer).size ≡ 0) × (out' ≡ out)

-- of every call
abbrev pub TranslationCorrect : Type 0
TranslationCorrect =
    (s pattern out : List ℕ) (answer : Translated) (out' : List ℕ) → Translates s pattern out answer out'
    → TranslationAnswered s pattern out answer out'
