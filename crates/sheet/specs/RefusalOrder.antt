-- "Refusal numbers": which fault has which number and which place, and "They apply in rising order", of every sheet and of every three
-- bodies. Shown by refusals_in_order of proofs/Acceptance/Order.antt.
use Rattle.std.specs.Prelude.{ℕ, ◌<◌, ◌≤◌, ◌≡◌, false, List, ◌↔◌, length, Result}
use Rattle.sheet.specs.Contents.{head_length, heading_right, contents_right, plan_body, actions_body, rule_body}
use Rattle.sheet.specs.Plan.{action_count, transition_count, plan_sized, transition_faulty}
use Rattle.sheet.specs.Actions.{entry_count, actions_sized, entry_faulty}
use Rattle.sheet.specs.Rule.{node_count, rule_sized, binding_faulty}
use Rattle.sheet.specs.FirstFault.{RuleFault}
use Rattle.sheet.specs.GivenRefusals.{Lowest}
use Rattle.sheet.specs.Refusals.{reported_check}
use Rattle.sheet.specs.Reading.{sheet_check, reported_read}
use Rattle.sheet.specs.Writing.{sheet_length, reported_write}
use Rattle.sheet.specs.RunningCalls.{Reads, Writes}
use Rattle.sheet.specs.declared.Bodies.{Bodies}
use Rattle.sheet.specs.declared.Refusal.{Refusal}

-- The bodies p, a, r have the fault of a number, at a place. "The place is the lowest faulty transition, entry or node for 5, 7, 10; for 9
-- the first fault met in preorder .. Other places are 0."
pub data BodiesFault (p a r : List ℕ) : ℕ → ℕ → Type 0 where
  -- "4: plan shorter than 4 bytes, S or T outside its limits, or length not 4 + 3 × T."
  plan_size : plan_sized p ≡ false → BodiesFault p a r 4 0
  -- "5: a transition: a state or action out of range, or one that isn't above the one before it."
  transition : {i : ℕ} → Lowest (transition_faulty p) (transition_count p) i → BodiesFault p a r 5 i
  -- "6: action table empty, count over 32, or length not 1 + 3 × count."
  actions_size : actions_sized a ≡ false → BodiesFault p a r 6 0
  -- "7: an entry: its kind, action, operand or unused field."; document 02 (a): a stretch that isn't well formed "falls under 7"
  entry : {e : ℕ} → Lowest (entry_faulty (action_count p) a) (entry_count a) e → BodiesFault p a r 7 e
  -- "8: rule empty, N outside 1 to 64, or length not 1 + 3 × N."
  rule_size : rule_sized r ≡ false → BodiesFault p a r 8 0
  -- "9: a node's kind, field or child number."
  node : {n : ℕ} → RuleFault (entry_count a) r n → BodiesFault p a r 9 n
  -- "10: a binder number, a seventh binder, or a variable not below its binder."
  binding : {n : ℕ} → Lowest (binding_faulty r) (node_count r) n → BodiesFault p a r 10 n

-- the sheet s has the fault of a number, at a place
pub data SheetFault (s : List ℕ) : ℕ → ℕ → Type 0 where
  -- "1: under 17 bytes."
  short : length s < head_length → SheetFault s 1 0
  -- "2: byte 0 or 1 wrong."
  heading : heading_right s ≡ false → SheetFault s 2 0
  -- "3: table of contents not as above, the file longer or shorter than it says, or over 6,455 bytes (the longest sheet)."
  contents : contents_right s ≡ false → SheetFault s 3 0
  -- 4 to 10
  bodies : {k m : ℕ} → BodiesFault (plan_body s) (actions_body s) (rule_body s) k m → SheetFault s k m

-- the bodies p, a, r, to be written to an output of so many bytes, have the fault of a number, at a place
pub data WriteFault (p a r : List ℕ) (room : ℕ) : ℕ → ℕ → Type 0 where
  -- 4 to 10
  bodies : {k m : ℕ} → BodiesFault p a r k m → WriteFault p a r room k m
  -- "22: output buffer too short (calls that write a sheet or a body)."
  output_short : room < sheet_length p a r → WriteFault p a r room 22 0

-- "They apply in rising order.": k is the lowest number of a fault, and m its place
pub record First (Fault : ℕ → ℕ → Type 0) (k m : ℕ) : Type 0 where
  pub found : Fault k m
  pub none_before : (j i : ℕ) → j < k → Fault j i → ⊥

-- a number k other than 0 and a place m are given exactly where k is the lowest number of a fault, and m its place
pub record RefusalsInOrder : Type 0 where
  -- "Reader and guard check give 1 to 10": by the check of every sheet, and by every call of `read`
  pub sheets :
      (s : List ℕ) (k m : ℕ) → 1 ≤ k
      → (((reported_check (sheet_check s)).number ≡ k) × ((reported_check (sheet_check s)).place ≡ m)) ↔ First (SheetFault s) k m
  pub reads :
      (s : List ℕ) (answer : Result Bodies Refusal) → Reads s answer → (k m : ℕ) → 1 ≤ k
      → (((reported_read answer).number ≡ k) × ((reported_read answer).place ≡ m)) ↔ First (SheetFault s) k m
  -- "the writer 4 to 10, then 22": by every call of `write`
  pub writes :
      (p a r out : List ℕ) (answer : Result ℕ Refusal) (out' : List ℕ) → Writes p a r out answer out' → (k m : ℕ) → 1 ≤ k
      → (((reported_write answer).number ≡ k) × ((reported_write answer).place ≡ m)) ↔ First (WriteFault p a r (length out)) k m

-- What a call that checks a sheet first reports: of 1 to 10 the number k, at the place m, exactly where k is the lowest number of a fault
-- of the sheet, and m its place. The guard check, clearing, a query, the reading of the count, the reference, propose, commit,
-- shortest_failing, audit, grant, query_in_turn, find_closest and shortest_way say so of their reports.
abbrev pub GivenInOrder : List ℕ → ℕ → ℕ → Type 0
GivenInOrder s number place =
    (k m : ℕ) → 1 ≤ k → k ≤ 10 → ((number ≡ k) × (place ≡ m)) ↔ First (SheetFault s) k m
