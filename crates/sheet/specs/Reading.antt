-- The reader: what it answers for every list of bytes.
use Rattle.std.specs.Prelude.{ℕ, List, length, eqb, leb, Result, Err, Ok}
use Rattle.sheet.specs.Refusals.{number_of, place_of, require, and_then}
use Rattle.sheet.specs.Contents.{head_length, heading_right, contents_right, plan_body, actions_body, rule_body}
use Rattle.sheet.specs.Contents.{plan_length, actions_length, rule_length, actions_offset, rule_offset}
use Rattle.sheet.specs.Plan.{plan_sized, lowest_transition, transition_count, action_count}
use Rattle.sheet.specs.Actions.{actions_sized, lowest_entry, entry_count}
use Rattle.sheet.specs.Rule.{rule_sized, syntax_fault, lowest_binding, node_count}
use Rattle.sheet.specs.declared.Bodies.{Bodies}
use Rattle.sheet.specs.declared.Refusal.TheVariants.{TooShort, Heading, Contents, PlanSize, TransitionFault}
use Rattle.sheet.specs.declared.Refusal.TheVariants.{ActionsSize, EntryFault, RuleSize, SyntaxFault, BindingFault}
use Rattle.sheet.specs.declared.Refusal.{Refusal}
use Rattle.sheet.specs.Refusals.{Check}

-- refusals 4 and 5
unfoldable pub plan_check : List ℕ → Check
plan_check p =
    and_then (require (plan_sized p) PlanSize)
    (require (eqb (lowest_transition p) (transition_count p)) (TransitionFault (lowest_transition p)))

-- refusals 6 and 7; actions is the plan's number of actions
unfoldable pub actions_check : ℕ → List ℕ → Check
actions_check actions a =
    and_then (require (actions_sized a) ActionsSize)
    (require (eqb (lowest_entry actions a) (entry_count a)) (EntryFault (lowest_entry actions a)))

-- refusals 8, 9 and 10; entries is the number of action entries
unfoldable pub rule_check : ℕ → List ℕ → Check
rule_check entries r =
    and_then (require (rule_sized r) RuleSize)
    (and_then (require (eqb (syntax_fault entries r) (node_count r)) (SyntaxFault (record { 0 = syntax_fault entries r })))
    (require (eqb (lowest_binding r) (node_count r)) (BindingFault (record { 0 = lowest_binding r }))))

-- refusals 4 to 10, of three bodies
unfoldable pub bodies_check : List ℕ → List ℕ → List ℕ → Check
bodies_check p a r = and_then (plan_check p) (and_then (actions_check (action_count p) a) (rule_check (entry_count a) r))

-- "Reader and guard check give 1 to 10": of a sheet
unfoldable pub sheet_check : List ℕ → Check
sheet_check s =
    and_then (require (leb head_length (length s)) TooShort)
    (and_then (require (heading_right s) Heading)
    (and_then (require (contents_right s) Contents) (bodies_check (plan_body s) (actions_body s) (rule_body s))))

-- "The reader gives each body's offset and length."
abbrev pub bodies_of : List ℕ → Bodies
bodies_of s = record {
  plan = record { offset = head_length; length = plan_length s };
  actions = record { offset = actions_offset s; length = actions_length s };
  rule = record { offset = rule_offset s; length = rule_length s };
}

-- "The reader gives each body's offset and length", or the refusal
abbrev pub answer_read : Bodies → Check → Result Bodies Refusal
answer_read b (Ok _) = Ok b
answer_read b (Err r) = Err r

-- what the reader answers for every list of bytes
unfoldable pub read_of : List ℕ → Result Bodies Refusal
read_of s = answer_read (bodies_of s) (sheet_check s)

-- what the reader reports: number, place, and each body's offset and length
pub record ReadReport : Type 0 where
  pub number : ℕ
  pub place : ℕ
  pub bodies : Bodies

-- "offsets, lengths and any further result number 0"
abbrev pub no_bodies : Bodies
no_bodies = record {
  plan = record { offset = 0; length = 0 };
  actions = record { offset = 0; length = 0 };
  rule = record { offset = 0; length = 0 };
}

-- "An accepted call gives number 0 and place 0."; on a refusal its number and place
abbrev pub reported_read : (Result Bodies Refusal) → ReadReport
reported_read (Ok b) = record { number = 0; place = 0; bodies = b }
reported_read (Err r) = record { number = number_of r; place = place_of r; bodies = no_bodies }

-- what the reader reports for every list of bytes
abbrev pub read_report_of : List ℕ → ReadReport
read_report_of s = reported_read (read_of s)
