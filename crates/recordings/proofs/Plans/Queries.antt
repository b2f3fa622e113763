-- What a query of the sheet of a run tells.
use Prim.Native.Nat.{ℕ, ◌<◌, ◌≤◌}
use mathlib.Core.Path.{◌≡◌, refl, sym, ap, subst, ◌∙◌}
use mathlib.Core.Bool.{Bool, true, false, not}
use mathlib.Core.List.{List, [], ◌∷◌}
use mathlib.Core.Logic.Iff
use mathlib.Core.Logic.{◌↔◌, inl, inr}
use native.Mathlib.Omega.{arith}
use native.Mathlib.Decide.{dec_lt, ℕ_discrete}
use lib.ListN.{replicate, length-replicate, get_or-replicate}
use lib.Seq.{ext_get_or}
use lib.Dec.{leb}
use borrow.Author.Tests.{leb-true}
use Rattle.sheet.specs.Bytes.{pick}
use Rattle.sheet.specs.Contents.{plan_body, actions_body, rule_body}
use Rattle.sheet.specs.Plan.{state_count, action_count}
use Rattle.sheet.specs.Reading.{sheet_check}
use Rattle.sheet.specs.WellFormed.{WellFormedSheet}
use Rattle.std.specs.Prelude.{Ok}
use Rattle.sheet.proofs.Checks.Bools.{together}
use Rattle.graph.specs.Loops.{LoopReachable}
use Rattle.graph.specs.Successors.{successors}
use Rattle.calculus.specs.Decode.{formula}
use Rattle.calculus.specs.Verdict.{empty_context, Verdict}
use Rattle.calculus.proofs.Table1.Decide.{eval_meaning}
use Rattle.judge.specs.Cells.{table_bytes}
use Rattle.judge.specs.Clearing.{cleared_of, table_cleared}
use Rattle.judge.specs.Demand3.{RefusedState}
use Rattle.judge.specs.LargestTable.{largest_table}
use Rattle.judge.specs.Lists.{JustCleared, reports}
use Rattle.judge.specs.Querying.{query_report_of}
use Rattle.judge.proofs.Statements.CallNumbers.{call_numbers}
use Rattle.judge.proofs.Statements.Demand3.{demand3}
use Rattle.judge.proofs.Statements.LargestTable.{every_table_fits}
use Rattle.recordings.specs.Runs.{chain, HoldsOn, WellFormedRun}
use Rattle.recordings.specs.Shortest.{holds_on}
use Rattle.recordings.specs.RunAsSheet.{chain_sheet}
use Rattle.recordings.specs.RecordingsCorrect.{HoldsExactly}
use Rattle.recordings.specs.Internal.Judging.{false_on_zeros, small_table, middle_table, table_room}
use Rattle.recordings.proofs.Plans.Chains.{chain_in_range}
use Rattle.recordings.proofs.Plans.Sheets.{chain_passed, chain_plan, chain_verdict, sheet_no_loop}

pub holds_exactly : HoldsExactly
unfolding holds_on HoldsOn
holds_exactly s run below =
    let A = action_count (plan_body s) in
    eval_meaning (chain A run) (chain_in_range A run below) (formula (actions_body s) (rule_body s) 0) empty_context 0 (omega arith)

-- a query of state 0 on a table of zeros, of an accepted sheet from whose state 0 no loop can be reached, tells Table 1's verdict
module _ (s : List ℕ) (n : ℕ) (passed : sheet_check s ≡ Ok tt) (fits : table_bytes s ≤ n) where
  abbrev zeros : List ℕ
  zeros = replicate n 0

  just : JustCleared s zeros
  just = demand3.clears s zeros passed (omega (arith, length-replicate {A = ℕ} n 0))

  -- clearing leaves zeros as they are
  cleared : table_cleared s zeros ≡ zeros
  cleared =
      let c = call_numbers.clears s zeros (cleared_of s zeros) (table_cleared s zeros) (refl, (refl, refl)) in
      ext_get_or 0 (table_cleared s zeros) zeros c.length_kept (λ i h.
      elim (dec_lt i (table_bytes s)) [
        | yes l ↦ c.cleared just i l ∙ sym (get_or-replicate n i 0 0 (omega arith))
        | no l ↦ c.after just i (omega arith)
      ])

  verdict_told : 0 < state_count (plan_body s) → (LoopReachable (successors (plan_body s)) 0 → ⊥)
      → ((query_report_of s 0 zeros).verdict ≡ true) ↔ Verdict s 0
  unfolding reports
  verdict_told below none =
      let c = demand3.lists s zeros (0 ∷ []) just in
      subst (λ (t : List ℕ). ((query_report_of s 0 t).verdict ≡ true) ↔ Verdict s 0) cleared
      (c.verdicts.0
      (elim (ℕ_discrete (query_report_of s 0 (table_cleared s zeros)).number 0) [
        | yes e ↦ e
        | no e ↦ absurd (accepts (c.refusals.0.0 e))
      ]))
    where
      accepts : RefusedState s 0 → ⊥
      accepts (inl h) = omega arith
      accepts (inr l) = none l

-- the table of an accepted sheet fits into the size that is made for it
room_fits : (s : List ℕ) → sheet_check s ≡ Ok tt → table_bytes s ≤ table_room (table_bytes s)
room_fits s passed = fits (table_bytes s) (every_table_fits s passed).1 (leb (table_bytes s) small_table) (leb (table_bytes s) middle_table) refl refl
  where
    fits : (n : ℕ) → n ≤ largest_table → (a b : Bool) → leb n small_table ≡ a → leb n middle_table ≡ b
        → n ≤ pick a small_table (pick b middle_table largest_table)
    fits n h true b e f = leb-true n small_table e
    fits n h false true e f = leb-true n middle_table f
    fits n h false false e f = h

-- the query is not refused, and its verdict is Table 1's
pub query_tells : (s : List ℕ) → WellFormedSheet s → (run : List ℕ) → WellFormedRun s run
    → false_on_zeros (chain_sheet s run) (table_room (table_bytes (chain_sheet s run))) ≡ not (holds_on s run)
query_tells s k run r =
    let passed = chain_passed s k run r in
    let size = table_room (table_bytes (chain_sheet s run)) in
    let told = verdict_told (chain_sheet s run) size passed (room_fits (chain_sheet s run) passed)
    (omega (arith, ap state_count (chain_plan s k run r))) (sheet_no_loop s k run r 0) in
    ap not (together (query_report_of (chain_sheet s run) 0 (replicate size 0)).verdict (holds_on s run)
    (Iff.trans told (Iff.trans (chain_verdict s k run r) (Iff.symm (holds_exactly s run r.below)))))
