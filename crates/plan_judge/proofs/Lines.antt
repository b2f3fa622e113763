-- The program's line: its length, and the line of each refusal.
use mathlib.Core.Path.{◌≡◌, refl}
use native.Mathlib.Omega.{arith}
use lib.ListN.{length-append}
use Rattle.text.specs.RefusalLine.{refusal_line}
use Rattle.text.proofs.Decimal.{decimal_length}
use Rattle.text.proofs.Words.{word_length}
use Rattle.text.proofs.RefusalLines.{refusal_fits}
use Rattle.std.specs.Prelude.{Ok, Err}
use Rattle.judge.specs.Querying.{error_number, error_place, reported_query}
use Rattle.judge.specs.declared.QueryError.{QueryError}
use Rattle.judge.specs.declared.QueryError.TheVariants.{WrongCount, Refused}
use Rattle.plan_judge.specs.Line.{line_of, EveryLineFits}

pub line_length_lem : EveryLineFits
unfolding line_of
line_length_lem (Ok j) = simp length-append (omega (arith, word_length j.verdict, decimal_length j.visits))
line_length_lem (Err WrongCount) = refusal_fits (reported_query (Err WrongCount)).number (reported_query (Err WrongCount)).place
line_length_lem (Err (Refused r)) = refusal_fits (reported_query (Err (Refused r))).number (reported_query (Err (Refused r))).place

-- the line of each refusal
pub refused_line : (x : QueryError) → refusal_line (error_number x) (error_place x) ≡ line_of (Err x)
unfolding line_of
refused_line WrongCount = refl
refused_line (Refused r) = refl
