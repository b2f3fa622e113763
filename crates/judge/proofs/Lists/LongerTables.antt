-- What a list of queries reports is told by the cells and the count alone, and not by what is past them.
use Rattle.std.proofs.Common.{◌≡◌, ℕ, ◌+◌, ◌≤◌, Bool, true, false, eqb, List, [], ◌∷◌, length, drop, replicate, sym, refl, ap, ◌∙◌, ap₂, subst₂, arith, le-leb}
use lib.ListN.{length-replicate}
use lib.Seq.{take-append-le}
use Rattle.sheet.specs.Contents.{rule_body}
use Rattle.sheet.specs.Reading.{sheet_check}
use Rattle.std.specs.Prelude.{Err, Ok}
use Rattle.sheet.specs.Refusals.{Check}
use Rattle.rows.specs.Tables.{byte_at, filled, count, visits, table}
use Rattle.rows.proofs.Lists.Lists.{query_length}
use Rattle.judge.specs.Cells.{cell, written_rows, enough, position_of, cell_at, cell_bytes, table_bytes, cells_in}
use Rattle.judge.specs.StoredCount.{stored_count, table_with}
use Rattle.judge.specs.Clearing.{table_cleared}
use Rattle.judge.specs.Querying.{bytes_right, query_check, count_right, result_at, result_of, answer_queried, queried_of, left_by, table_queried, reported_query}
use Rattle.judge.specs.Lists.{reports}
use Rattle.judge.proofs.Cells.CountLayout.{cells_length, filled_cells_lem, bytes_cells, from_bytes, with_cells, with_count, with_length}
use Rattle.judge.proofs.Lists.JustCleared.{cleared_is, cleared_length, cleared_count, cleared_exact}

module _ (s : List ℕ) where
  -- two tables that have the same cells and the same count
  record Same (t u : List ℕ) : Type 0 where
    pub long : table_bytes s ≤ length t
    pub long_too : table_bytes s ≤ length u
    pub cells : cells_in s t ≡ cells_in s u
    pub counts : stored_count s t ≡ stored_count s u

  cells_size : (state : ℕ) (t : List ℕ) → table_bytes s ≤ length t → length (table (result_of s state t)) ≡ cell_bytes s
  cells_size state t h = query_length (position_of (rule_body s)) (cell_bytes s) (cell_at (rule_body s)) (written_rows s) enough (cells_in s t) (cell 0 0 state) ∙ cells_length s t h

  module _ (t u : List ℕ) (m : Same t u) (state : ℕ) where
    same_result : result_of s state t ≡ result_of s state u
    same_result = ap (result_at s (cell 0 0 state)) m.cells

    same_check : query_check s state t ≡ query_check s state u
    unfolding query_check
    same_check = rw (
      le-leb (table_bytes s) (length t) m.long,
      le-leb (table_bytes s) (length u) m.long_too,
      sym (bytes_cells s t) ∙ ap (bytes_right (cell_bytes s)) m.cells ∙ bytes_cells s u,
    )

    same_right : count_right s t ≡ count_right s u
    unfolding count_right
    same_right = ap₂ eqb m.counts (filled_cells_lem s t ∙ ap (λ (held : List ℕ). count (cell_bytes s) (λ i. filled (byte_at held i))) m.cells ∙ sym (filled_cells_lem s u))

    same_answer : queried_of s state t ≡ queried_of s state u
    unfolding queried_of
    same_answer = λ i. answer_queried (same_result i) (same_check i) (same_right i)

    abbrev cells_of : List ℕ → List ℕ
    cells_of x = table (result_of s state x)

    abbrev count_of : List ℕ → ℕ
    count_of x = stored_count s x + visits (result_of s state x)

    abbrev with_visits : List ℕ → List ℕ
    with_visits x = table_with s (cells_of x) (count_of x) x

    grown : Same (with_visits t) (with_visits u)
    grown = record {
      long = rw (with_length s (cells_of t) (count_of t) t (cells_size state t m.long) m.long) m.long;
      long_too = rw (with_length s (cells_of u) (count_of u) u (cells_size state u m.long_too) m.long_too) m.long_too;
      cells = with_cells s (cells_of t) (count_of t) t (cells_size state t m.long) ∙ ap table same_result ∙ sym (with_cells s (cells_of u) (count_of u) u (cells_size state u m.long_too));
      counts =
          with_count s (cells_of t) (count_of t) t (cells_size state t m.long) ∙ ap from_bytes (ap₂ ◌+◌ m.counts (ap visits same_result)) ∙
          sym (with_count s (cells_of u) (count_of u) u (cells_size state u m.long_too));
    }

    same_left : Same (table_queried s state t) (table_queried s state u)
    unfolding table_queried
    same_left = go (query_check s state t) (count_right s t) refl refl
      where
        left : (x : List ℕ) (c : Check) (b : Bool) → query_check s state x ≡ c → count_right s x ≡ b → left_by s (result_of s state x) x c b ≡ table_queried s state x
        left x c b e f = sym (ap₂ (left_by s (result_of s state x) x) e f)

        go : (c : Check) (b : Bool) → query_check s state t ≡ c → count_right s t ≡ b → Same (table_queried s state t) (table_queried s state u)
        go (Ok tt) true e f = subst₂ Same (left t (Ok tt) true e f) (left u (Ok tt) true (sym same_check ∙ e) (sym same_right ∙ f)) grown
        go (Ok tt) false e f = subst₂ Same (left t (Ok tt) false e f) (left u (Ok tt) false (sym same_check ∙ e) (sym same_right ∙ f)) m
        go (Err x) b e f = subst₂ Same (left t (Err x) b e f) (left u (Err x) b (sym same_check ∙ e) (sym same_right ∙ f)) m

  same_reports : (states t u : List ℕ) → Same t u → reports s t states ≡ reports s u states
  unfolding reports
  same_reports [] t u m = refl
  same_reports (state ∷ states) t u m =
      ap₂ ◌∷◌ (ap reported_query (same_answer t u m state)) (same_reports states (table_queried s state t) (table_queried s state u) (same_left t u m state))

  -- a table just cleared, and one with nothing past it
  pub reports_cleared : sheet_check s ≡ Ok tt → (states t : List ℕ) → table_bytes s ≤ length t
      → reports s (table_cleared s t) states ≡ reports s (replicate (table_bytes s) 0) states
  reports_cleared accepted states t fits = same_reports states (table_cleared s t) bare (record {
    long = rw (cleared_length s t accepted fits) fits;
    long_too = omega (arith, bare_length);
    cells = ap (cells_in s) (cleared_is s t accepted fits) ∙ take-append-le (cell_bytes s) bare (drop (table_bytes s) t) (omega (arith, bare_length));
    counts = cleared_count s t accepted fits ∙ sym (ap (stored_count s) (sym (cleared_exact s bare accepted bare_length)) ∙ cleared_count s bare accepted (omega (arith, bare_length)));
  })
    where
      bare : List ℕ
      bare = replicate (table_bytes s) 0

      bare_length : length bare ≡ table_bytes s
      bare_length = length-replicate {A = ℕ} (table_bytes s) 0
