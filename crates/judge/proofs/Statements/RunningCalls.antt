-- Demand 3 of the running calls: whatever keeps the contracts of `clear`, `query` and `stored_count` delivers it.
use Rattle.std.proofs.Common.{◌≡◌, ℕ, List, sym, ap, ◌∙◌, subst₂, arith}
use Rattle.sheet.proofs.Acceptance.Sheet.{accepted_iff}
use Rattle.judge.specs.Clearing.{ClearReport, reported_clear, Clears}
use Rattle.judge.specs.Querying.{QueryReport}
use Rattle.judge.specs.Lists.{Calls}
use Rattle.judge.specs.Demand3.{ListCorrect, Demand3OfCalls}
use Rattle.judge.specs.Clearing.{Cleared}
use Rattle.judge.proofs.Lists.Called.{gave_none, cleared_report, cleared_leave}
use Rattle.judge.proofs.Lists.JustCleared.{cleared_only}
use Rattle.judge.proofs.Statements.CallNumbers.{call_numbers}
use Rattle.judge.proofs.Statements.Demand3.{demand3}

lists : (s t states : List ℕ) (r : Cleared) (u : List ℕ) (answers : List QueryReport) (left : List ℕ)
    → Clears s t r u → (reported_clear r).number ≡ 0 → Calls s u states answers left → ListCorrect s t states answers left
lists s t states r u answers left c just q =
    subst₂ (ListCorrect s t states) (sym (cleared_report s t states r u answers left c q)) (sym (cleared_leave s t states r u answers left c q))
    (demand3.lists s t states (gave_none s t r u c just))

pub delivered : Demand3OfCalls
delivered = record {
  layout = demand3.layout;
  clears = λ s t r u c accepted fits. ap (λ (x : ClearReport). x.number) c.1.0 ∙ demand3.clears s t accepted fits;
  lists = lists;
  progress = λ s t states r u answers left n c just q reads.
      let fine = lists s t states r u answers left c just q in
      let gave = cleared_only s t (gave_none s t r u c just) in
      (call_numbers.counts s left n reads).done ((accepted_iff s).0 gave.0) (omega (arith, gave.1, fine.length_kept))
      ∙ ap (λ (k : ℕ). record { number = 0; place = 0; stored = k }) fine.stored;
}
