-- How long a report's text is: a line has at most 16 bytes, and the last line at most 12.
use Prim.Native.Nat.{ℕ, suc, ◌+◌, ◌*◌, ◌<◌, ◌≤◌}
use mathlib.Core.Path.{◌≡◌, refl}
use mathlib.Core.Bool.{Bool, true, false}
use mathlib.Core.List.{List, [], ◌∷◌}
use mathlib.Core.Logic.{◌≢◌}
use native.Mathlib.Omega.{arith}
use lib.Dec.{eqb}
use borrow.Author.Tests.{eqb-false}
use lib.ListN.{length, length-append}
use Rattle.text.specs.Decimal.{decimal_of}
use Rattle.text.specs.Words.{bool_text, refused}
use Rattle.text.proofs.Decimal.{short_decimal}
use Rattle.text.proofs.Words.{word_length}
use Rattle.sheet.specs.Bytes.{byte, pick}
use Rattle.sheet.specs.RunningCalls.{AllBytes}
use Rattle.judge.specs.Querying.{QueryReport}
use Rattle.judge.specs.Lists.{Reported, visits_of}
use Rattle.report.specs.Text.{line_with, line_of, lines_of, total_line}

-- numbers of up to five digits
abbrev small : ℕ
small = 100000

with_length : (state : ℕ) (word : List ℕ) (visits : ℕ) → length (line_with state word visits) ≡ length (decimal_of state) + length word + length (decimal_of visits) + 3
unfolding line_with
with_length state word visits = simp length-append (omega arith)

-- a line of a query that is refused with no visits, or judged with few
pub line_length_lem : (state : ℕ) (q : QueryReport) → state < 256 → q.visits < small → (q.number ≢ 0 → q.visits ≡ 0) → length (line_of state q) ≤ 16
line_length_lem state q byte few none = go (eqb q.number 0) refl
  where
    digits : length (decimal_of state) ≤ 3
    digits = short_decimal 2 state (omega arith)

    go : (b : Bool) → eqb q.number 0 ≡ b → length (line_with state (pick b (bool_text q.verdict) refused) q.visits) ≤ 16
    go true e = omega (arith, with_length state (bool_text q.verdict) q.visits, word_length q.verdict, digits, short_decimal 4 q.visits (omega arith))
    go false e =
        let z : q.visits ≡ 0 = none (eqb-false q.number 0 e) in
        omega (arith, with_length state refused q.visits, digits, short_decimal 0 q.visits (omega (arith, z)))

-- the lines of a list of queries
pub lines_length : (states : List ℕ) (qs : List QueryReport) → AllBytes states → visits_of qs < small
    → Reported (λ state q. q.number ≢ 0 → (q.verdict ≡ false) × (q.visits ≡ 0)) states qs → length (lines_of states qs) ≤ length states * 16
unfolding lines_of visits_of
lines_length [] qs bytes few none = omega arith
lines_length (x ∷ states) [] bytes few none = omega arith
lines_length (x ∷ states) (q ∷ qs) bytes few none =
    let rest = lines_length states qs (record { at = λ k. bytes.at (suc k) }) (omega arith) none.1 in
    let first = line_length_lem x q (bytes.at 0) (omega arith) (λ r. (none.0 r).1) in
    omega (arith, length-append (line_of x q) (lines_of states qs), rest, first)

-- the last line
pub total_length : (n : ℕ) → n < small → length (total_line n) ≤ 12
unfolding total_line
total_length n h = simp length-append (omega (arith, short_decimal 4 n h))
