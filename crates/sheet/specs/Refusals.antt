-- Document 01, "Refusal numbers": the number and the place of each refusal, and the order in which they apply.
use Rattle.std.specs.Prelude.{ℕ, Bool, Result, Ok, Err}
use Rattle.sheet.specs.Bytes.{pick}
use Rattle.sheet.specs.declared.Refusal.{Refusal}
use Rattle.sheet.specs.declared.Refusal.TheVariants.{TooShort, Heading, Contents, PlanSize, TransitionFault}
use Rattle.sheet.specs.declared.Refusal.TheVariants.{ActionsSize, EntryFault, RuleSize, SyntaxFault, BindingFault}
use Rattle.sheet.specs.declared.Refusal.TheVariants.{NoSuchState, Loop, TooManyStates, TableShort, TableByte, OutputShort}

-- the number of each refusal, "From the input" and "From the state of what is lent"; document 02 (l): those of a query turn down a call of
-- grant too, as "the benches' own refusals"; document 02 (m): "Refusals go as for a query of state 0", find_closest
abbrev pub number_of : Refusal → ℕ
-- "1: under 17 bytes."
number_of TooShort = 1
-- "2: byte 0 or 1 wrong."
number_of Heading = 2
-- "3: table of contents not as above, the file longer or shorter than it says, or over 6,455 bytes (the longest sheet)."
number_of Contents = 3
-- "4: plan shorter than 4 bytes, S or T outside its limits, or length not 4 + 3 × T."
number_of PlanSize = 4
-- "5: a transition: a state or action out of range, or one that isn't above the one before it."
number_of (TransitionFault t) = 5
-- "6: action table empty, count over 32, or length not 1 + 3 × count."
number_of ActionsSize = 6
-- "7: an entry: its kind, action, operand or unused field."; document 02 (a): a stretch that isn't well formed "falls under 7"
number_of (EntryFault e) = 7
-- "8: rule empty, N outside 1 to 64, or length not 1 + 3 × N."
number_of RuleSize = 8
-- "9: a node's kind, field or child number."
number_of (SyntaxFault n) = 9
-- "10: a binder number, a seventh binder, or a variable not below its binder."
number_of (BindingFault n) = 10
-- "11: queried state not below S."
number_of NoSuchState = 11
-- document 01: "12: the plan has a loop (query only)."; since document 02 (b): "12 exactly when a loop can be reached from the queried
-- state"; document 02 (i): "A loop then reachable from state 0 falls under 12 in both calls", propose and commit; document 02 (k): "A loop
-- reachable from a state with a filled cell falls under 12", audit
number_of Loop = 12
-- "13: S over 64 (reference only)."
number_of TooManyStates = 13
-- "20: table buffer too short."; document 02 (f): "Number 20 now means four bytes more"
number_of TableShort = 20
-- "21: a table byte over 2 (query only)."; document 02 (f): "21 reads the cells alone"; since document 02 (k) audit gives it too
number_of TableByte = 21
-- "22: output buffer too short (calls that write a sheet or a body)."; shortest_way of the crate closest gives it too
number_of OutputShort = 22

-- "The place is the lowest faulty transition, entry or node for 5, 7, 10; for 9 the first fault met in preorder, a second child's number
-- being looked at after the first child's part, a node left over being faulty itself, a missing child the fault of its parent. Other places
-- are 0."
abbrev pub place_of : Refusal → ℕ
place_of TooShort = 0
place_of Heading = 0
place_of Contents = 0
place_of PlanSize = 0
place_of (TransitionFault t) = t
place_of ActionsSize = 0
place_of (EntryFault e) = e
place_of RuleSize = 0
place_of (SyntaxFault n) = n.0
place_of (BindingFault n) = n.0
place_of NoSuchState = 0
place_of Loop = 0
place_of TooManyStates = 0
place_of TableShort = 0
place_of TableByte = 0
place_of OutputShort = 0

-- what checking the input, or a body of it, gives: it passes, or it is turned down
abbrev pub Check : Type 0
Check = Result (Unit {0}) Refusal

-- a test that passes, or the refusal
abbrev pub require : Bool → Refusal → Check
require kept r = pick kept (Ok tt) (Err r)

-- "They apply in rising order": the first refusal decides
abbrev pub and_then : Check → Check → Check
and_then (Ok _) next = next
and_then (Err r) next = Err r

-- a number that an answer reports: "An accepted call gives number 0 and place 0."; on a refusal the error's
abbrev pub answer_number : {T E : Type 0} → (E → ℕ) → Result T E → ℕ
answer_number of (Ok _) = 0
answer_number of (Err e) = of e

-- what a check reports
pub record CheckReport : Type 0 where
  pub number : ℕ
  pub place : ℕ

-- "An accepted call gives number 0 and place 0."; on a refusal its number and place
abbrev pub reported_check : Check → CheckReport
reported_check (Ok _) = record { number = 0; place = 0 }
reported_check (Err r) = record { number = number_of r; place = place_of r }
