-- Document 02 (k): the audit of a filled table, delivered by a supplier whose own program filled it. What it answers, for every list of
-- bytes as sheet and as table; it changes nothing. The table is to the verdicts what a certificate is: it is checked, not trusted.
use Rattle.std.specs.Prelude.{◌≡◌, ℕ, zero, suc, Bool, true, false, not, ◌&&◌, List, ◌==◌, Err, Ok, Result}
use Rattle.sheet.specs.Bytes.{pick, lowest}
use Rattle.sheet.specs.Contents.{plan_body, rule_body}
use Rattle.sheet.specs.Rule.{binder_node, below}
use Rattle.sheet.specs.Refusals.{number_of, place_of, require, and_then}
use Rattle.sheet.specs.declared.Refusal.TheVariants.{Loop as LoopRefusal, TableByte}
use Rattle.sheet.specs.Refusals.{Check}
use Rattle.rows.specs.Tables.{byte_at, filled, known}
use Rattle.rows.specs.FollowsFrom.{follows_from}
use Rattle.graph.specs.LoopTest.{loop_free}
use Rattle.judge.specs.Cells.{written_rows, position_of, cell_at, cell_bytes}
use Rattle.judge.specs.Clearing.{clear_check}
use Rattle.judge.specs.Querying.{bytes_right, count_right}
use Rattle.sheet.specs.declared.Refusal.{Refusal}

-- what the audit of a filled table answers: yes or no
abbrev pub Audited : Type 0
Audited = Result Bool Refusal

-- every number below n passes a test: there is no lowest one that fails it
unfoldable pub every_below : ℕ → (ℕ → Bool) → Bool
every_below n p = lowest (λ i. not (p i)) n == n

-- the place of every byte of the cells passes a test
abbrev pub every_byte : List ℕ → (ℕ → Bool) → Bool
every_byte s p = every_below (cell_bytes s) p

-- "A loop reachable from a state with a filled cell falls under 12": the byte is of an empty cell, or no loop can be reached from its state
abbrev pub byte_loop_free : List ℕ → List ℕ → ℕ → Bool
byte_loop_free s t i = pick (filled (byte_at t i)) (loop_free (plan_body s) (cell_at (rule_body s) i).state) true

-- 1 to 10, then 20, as clearing; then 21, and "12, here after 21"
unfoldable pub audit_check : List ℕ → List ℕ → Check
audit_check s t =
    and_then (clear_check s t)
    (and_then (require (bytes_right (cell_bytes s) t) TableByte) (require (every_byte s (byte_loop_free s t)) LoopRefusal))

-- "mark 0 or the mark of a binder above its node": under mark k + 1 the node stands below binder k
abbrev pub mark_allowed : List ℕ → ℕ → ℕ → Bool
mark_allowed r zero n = true
mark_allowed r (suc k) n = below r (binder_node r k) n

-- "each filled cell has mark 0 or the mark of a binder above its node": the byte is of an empty cell, or of one with such a mark
abbrev pub byte_marked : List ℕ → List ℕ → ℕ → Bool
byte_marked s t i = pick (filled (byte_at t i)) (mark_allowed (rule_body s) (cell_at (rule_body s) i).mark (cell_at (rule_body s) i).node) true

-- "and each filled cell follows from filled cells of its row: one that decides it, or all of them where none does", by the rows as written:
-- the byte is of an empty cell, or its value follows
abbrev pub byte_follows : List ℕ → List ℕ → ℕ → Bool
byte_follows s t i =
    pick (filled (byte_at t i))
    (follows_from (position_of (rule_body s)) t (written_rows s (cell_at (rule_body s) i)) (known (byte_at t i))) true

-- "Say yes exactly when the stored count is right, each filled cell has mark 0 or .., and each filled cell follows ..". "A wrong count here
-- is a no, not 35."
unfoldable pub audit_right : List ℕ → List ℕ → Bool
audit_right s t = count_right s t && (every_byte s (byte_marked s t) && every_byte s (byte_follows s t))

-- yes or no, or the refusal
abbrev pub answer_audited : Bool → Check → Audited
answer_audited right (Ok tt) = Ok right
answer_audited right (Err x) = Err x

-- the answer for every sheet and table
unfoldable pub audited_of : List ℕ → List ℕ → Audited
audited_of s t = answer_audited (audit_right s t) (audit_check s t)

-- what each answer reports: number, place, and yes or no. "An accepted call gives number 0 and place 0."; "A refused call gives verdict and
-- guard answer false", and so this answer too
pub record AuditReport : Type 0 where
  pub number : ℕ
  pub place : ℕ
  pub answer : Bool

-- number, place and answer of each case
abbrev pub reported_audit : Audited → AuditReport
reported_audit (Ok b) = record { number = 0; place = 0; answer = b }
reported_audit (Err r) = record { number = number_of r; place = place_of r; answer = false }

-- what it reports for every sheet and table
abbrev pub audit_report_of : List ℕ → List ℕ → AuditReport
audit_report_of s t = reported_audit (audited_of s t)

-- The contract of `audit`: a call on the sheet s and the table t answered r. AuditsCorrect speaks of it.
abbrev pub Audits : List ℕ → List ℕ → Audited → Type 0
Audits s t r = (r ≡ audited_of s t) × (reported_audit r ≡ audit_report_of s t)
