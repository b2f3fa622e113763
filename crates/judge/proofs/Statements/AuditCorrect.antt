-- The audit, whole: its answers, what a yes means, and that the tables of lists of queries get one.
use Rattle.std.proofs.Common.{◌≡◌, ℕ, true, List, sym, refl, subst}
use Rattle.sheet.proofs.Acceptance.Sheet.{accepted_iff}
use Rattle.judge.specs.Clearing.{table_cleared}
use Rattle.judge.specs.Lists.{JustCleared, table_after}
use Rattle.judge.specs.Auditing.{audited_of, reported_audit, Audits}
use Rattle.judge.specs.AuditCorrect.{AuditsCorrect}
use Rattle.judge.specs.Auditing.{Audited}
use Rattle.judge.proofs.Audit.AuditNumbers.{audit_answered}
use Rattle.judge.proofs.Audit.AuditSolved.{table_solved}
use Rattle.judge.proofs.Audit.AuditKept.{Yes, cleared_yes, after_yes}
use Rattle.judge.proofs.Cells.CellLayout.{table_layout}
use Rattle.judge.proofs.Lists.Called.{calls_exactly, cleared_leave, gave_none}
use Rattle.judge.proofs.Lists.JustCleared.{cleared_only}

said_yes : (s t : List ℕ) (r : Audited) → Audits s t r → (reported_audit r).answer ≡ true → Yes s t
said_yes s t r q h = (audit_answered s t r q).yes_exactly.0 h

says_yes : (s t : List ℕ) (r : Audited) → Audits s t r → Yes s t → reported_audit r ≡ record { number = 0; place = 0; answer = true }
says_yes s t r q both =
    let is = audit_answered s t r q in
    λ i. record { number = is.none.1 both.0 i; place = is.place both.0.bytes.there.accepted i; answer = is.yes_exactly.1 both i }

list_yes : (s t states : List ℕ) → JustCleared s t → Yes s (table_after s (table_cleared s t) states)
list_yes s t states just =
    let gave = cleared_only s t just in
    after_yes s gave.0 states (table_cleared s t) (cleared_yes s gave.0 t gave.1)

pub audits_correct : AuditsCorrect
audits_correct = record {
  layout = table_layout;
  answered = audit_answered;
  sound = λ s t r q h. let both = said_yes s t r q h in table_solved s t both.0 both.1;
  lists = λ s t states just.
      let left = table_after s (table_cleared s t) states in says_yes s left (audited_of s left) (refl, refl) (list_yes s t states just);
  calls = λ s t states r u answers left a c just q audits.
      says_yes s left a audits
      (subst (Yes s) (sym (cleared_leave s t states r u answers left c q)) (list_yes s t states (gave_none s t r u c just)));
  stays = λ s t states r answers left a q h c audits.
      let both = said_yes s t r q h in
      says_yes s left a audits
      (subst (Yes s) (sym ((calls_exactly s t states answers left).0 c).1)
      (after_yes s ((accepted_iff s).1 both.0.bytes.there.accepted) states t both));
}
