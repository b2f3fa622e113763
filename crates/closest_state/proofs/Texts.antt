-- The text of each answer, and that of a state that the program finds as it is put: the first line, and then those of the way.
use Prim.Native.Nat.{ℕ, ◌*◌, ◌≤◌}
use mathlib.Core.Path.{◌≡◌, refl, sym, ap, ◌∙◌}
use mathlib.Core.List.{List, ◌++◌}
use native.Mathlib.Omega.{arith}
use lib.ListN.{length, drop, length-append}
use Rattle.text.specs.Placing.{buffer_after, Puts}
use Rattle.text.specs.RefusalLine.{refusal_line}
use Rattle.text.proofs.Placing.{starting_append, starting_length}
use Rattle.text.proofs.RefusalLines.{refusal_fits}
use Rattle.sheet.specs.Contents.{plan_body}
use Rattle.sheet.specs.declared.State.{State}
use Rattle.std.specs.Prelude.{Option, None, Some, Ok, Err}
use Rattle.judge.specs.Querying.{error_number, error_place}
use Rattle.judge.specs.declared.QueryError.{QueryError}
use Rattle.judge.specs.declared.QueryError.TheVariants.{WrongCount, Refused}
use Rattle.closest.specs.Finding.{ClosestAnswer}
use Rattle.closest.specs.declared.Failing.{Failing}
use Rattle.closest.specs.Tracing.{Traced, way_to, Traces}
use Rattle.closest.proofs.Traces.Ways.{way_length, way_written}
use Rattle.closest_state.specs.Text.{fails_line, holds_line, way_lines, text_of, text_length}
use Rattle.closest_state.specs.ProgramCorrect.{holds_after, fails_after}
use Rattle.closest_state.specs.Program.{program_of, program_text, RefusedAlike, EveryTextFits}
use Rattle.closest_state.specs.Internal.Lines.{lines_of, LinesRequire, PutsAt}
use Rattle.closest_state.proofs.Answers.{program_refuses, found_counted, found_near, way_left}
use Rattle.closest_state.proofs.Lengths.{fails_length, holds_length, lines_length}
use Rattle.closest_state.proofs.Putting.{lines_read}

pub text_refuses : RefusedAlike
unfolding program_text text_of
text_refuses s x e = ap (text_of s) (program_refuses s x e)

-- the text of an answer of the program
module _ (s : List ℕ) {r : ClosestAnswer} (h : r ≡ program_of s) where
  pub holds_text : {visits : ℕ} → r ≡ holds_after visits → holds_line visits ≡ program_text s
  unfolding program_text text_of
  holds_text e = ap (text_of s) (sym e ∙ h)

  pub refused_text : {x : QueryError} → r ≡ Err x → refusal_line (error_number x) (error_place x) ≡ program_text s
  unfolding program_text text_of
  refused_text {x} e = by_error x ∙ ap (text_of s) (sym e ∙ h)
    where
      by_error : (x : QueryError) → refusal_line (error_number x) (error_place x) ≡ text_of s (Err x)
      by_error WrongCount = refl
      by_error (Refused y) = refl

-- of a state that the program finds
module _ (s : List ℕ) {state : State} {n visits : ℕ} (h : fails_after state n visits ≡ program_of s) where
  abbrev first : List ℕ
  first = fails_line state.0 n visits

  abbrev lines : List ℕ
  lines = way_lines (way_to (plan_body s) n state.0)

  found_text : first ++ lines ≡ program_text s
  unfolding program_text text_of
  found_text = ap (text_of s) h

  found_fits : length (first ++ lines) ≤ text_length
  found_fits =
      omega (
        arith,
        length-append first lines,
        fails_length state.0 n visits,
        lines_length (way_to (plan_body s) n state.0),
        way_length (plan_body s) n state.0,
        found_near s h,
      )

  -- the way that a call of shortest_way left, and the lines of it
  module _ (buffer : List ℕ) {r : Traced} {way : List ℕ} (t : Traces s state.0 buffer r way) (l : 3 * n ≤ length buffer) where
    way_lines_lem : lines_of way n ≡ lines
    way_lines_lem = ap (λ (w : List ℕ). lines_of w n) (way_left s h buffer t l) ∙ lines_read (plan_body s) n state.0 (drop (3 * n) buffer)

    way_size : length way ≡ length buffer
    way_size = ap length (way_left s h buffer t l) ∙ (way_written (plan_body s) n state.0 (found_counted s h) buffer l).size_kept

    -- they are put behind the first line
    module _ (out : List ℕ) (room : text_length ≤ length out) {end : ℕ} {between : List ℕ} (p : Puts first end out between) where
      pub lines_required : LinesRequire way n end between
      lines_required = record {
        inside = omega (arith, way_size);
        fits =
            omega (
              arith,
              p.0,
              ap length way_lines_lem,
              length-append first lines,
              found_fits,
              ap length p.1 ∙ starting_length first out (omega (arith, fails_length state.0 n visits)),
            );
      }

      pub found_puts : {k : ℕ} {after : List ℕ} → PutsAt (lines_of way n) end between k after → Puts (program_text s) k out after
      found_puts {k} {after} q = rw found_text at both
        where
          both : Puts (first ++ lines) k out after
          both = (
            q.0 ∙ omega (arith, p.0, ap length way_lines_lem, length-append first lines),
            q.1 ∙ ((λ i. buffer_after (way_lines_lem i) (p.0 i) (p.1 i)) ∙ starting_append first lines out (omega (arith, found_fits))),
          )

pub every_text_fits : EveryTextFits
every_text_fits s = go (program_of s) refl
  where
    by_first : (f : Option Failing) (n : ℕ) → Ok (record { first = f; visits = n }) ≡ program_of s → length (program_text s) ≤ text_length
    by_first (Some f) n h = rw (found_text s h) at (found_fits s h)
    by_first None n h = omega (arith, ap length (holds_text s h refl), holds_length n)

    go : (r : ClosestAnswer) → r ≡ program_of s → length (program_text s) ≤ text_length
    go (Ok c) h = by_first c.first c.visits h
    go (Err x) h = omega (arith, ap length (refused_text s h refl), refusal_fits (error_number x) (error_place x))
