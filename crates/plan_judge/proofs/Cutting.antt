-- A file cut after one byte more than the longest sheet has the line of the whole.
use Prim.Native.Nat.{ℕ}
use mathlib.Core.Path.{◌≡◌, ap, ◌∙◌}
use mathlib.Core.List.{List}
use native.Mathlib.Omega.{arith}
use lib.ListN.{length, take}
use Rattle.sheet.proofs.Limits.LongFiles.{cut_answered}
use Rattle.std.specs.Prelude.{Err}
use Rattle.sheet.specs.declared.Refusal.{Refusal}
use Rattle.judge.specs.declared.QueryError.TheVariants.{Refused}
use Rattle.plan_judge.specs.Line.{line_of}
use Rattle.plan_judge.specs.Program.{program_of, program_line}
use Rattle.plan_judge.specs.Buffers.{input_length, CutChangesNothing, HoldsStart}
use Rattle.plan_judge.proofs.Answers.{program_refuses}

pub cut_changes_nothing : CutChangesNothing
cut_changes_nothing file = ap line_of (cut_answered input_length file (omega arith) program_of (λ (x : Refusal). Err (Refused x)) program_refuses)

-- what was read into a buffer of that length has the line of its file
pub held_line : (file buffer : List ℕ) (n : ℕ) → length buffer ≡ input_length → HoldsStart file buffer n → program_line (take n buffer) ≡ program_line file
held_line file buffer n l h = ap program_line (h ∙ ap (λ (k : ℕ). take k file) l) ∙ cut_changes_nothing file
