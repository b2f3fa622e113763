-- What the tests of the reader's code say of what was taken from a sheet, and that a sheet taken front to back is checked as a whole.
use Prim.Native.Nat.{ℕ, ◌+◌, ◌≤◌}
use mathlib.Core.Path.{◌≡◌, refl, ap, ◌∙◌}
use mathlib.Core.List.{List}
use native.Mathlib.Omega.{arith}
use lib.ListN.{length, take, drop, length-drop}
use lib.Seq.{drop-drop}
use borrow.Author.Tests.{le-leb}
use Rattle.sheet.specs.Bytes.{slice}
use Rattle.sheet.specs.Contents.{heading_right, head_length, entry_is, plan_length, actions_length, rule_length, actions_offset, rule_offset, contents_right, plan_body, actions_body, rule_body}
use Rattle.sheet.specs.Refusals.{require, and_then}
use Rattle.sheet.specs.Reading.{bodies_check, sheet_check}
use Rattle.sheet.specs.Internal.Entry.{heading_at, entry_fits, entries_fit, check_taken, check_in_order}
use Rattle.sheet.specs.declared.Refusal.TheVariants.{Heading, Contents}

module _ (s : List ℕ) where
  -- a part of what follows the first 17 bytes
  from_head : (offset to size : ℕ) → head_length + offset ≡ to → slice (drop head_length s) offset size ≡ slice s to size
  from_head offset to size e = ap (take size) (drop-drop offset head_length s ∙ ap (λ (n : ℕ). drop n s) e)

  pub in_order : head_length ≤ length s → check_in_order s ≡ sheet_check s
  unfolding check_taken sheet_check heading_at heading_right entries_fit contents_right entry_fits entry_is
  in_order long =
      let whole : head_length + length (drop head_length s) ≡ length s = ap (λ (n : ℕ). head_length + n) (length-drop head_length s) ∙ omega (arith, long) in
      let plan : slice (drop head_length s) 0 (plan_length s) ≡ plan_body s = from_head 0 head_length (plan_length s) refl in
      let actions : slice (drop head_length s) (plan_length s) (actions_length s) ≡ actions_body s = from_head (plan_length s) (actions_offset s) (actions_length s) refl in
      let rule : slice (drop head_length s) (plan_length s + actions_length s) (rule_length s) ≡ rule_body s = from_head (plan_length s + actions_length s) (rule_offset s) (rule_length s) (omega arith) in
      rw (le-leb head_length (length s) long, whole)
      (λ i. and_then (require (heading_right s) Heading) (and_then (require (contents_right s) Contents) (bodies_check (plan i) (actions i) (rule i))))
