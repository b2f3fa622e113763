-- A file cut after one byte more than the longest sheet has the text of the whole.
use Prim.Native.Nat.{ℕ}
use mathlib.Core.Path.{◌≡◌, ap, ◌∙◌}
use mathlib.Core.List.{List}
use native.Mathlib.Omega.{arith}
use lib.ListN.{length, take}
use Rattle.text.specs.RefusalLine.{refusal_line}
use Rattle.sheet.specs.Refusals.{number_of, place_of}
use Rattle.sheet.proofs.Limits.LongFiles.{cut_answered}
use Rattle.closest_state.specs.Program.{program_text}
use Rattle.closest_state.specs.Buffers.{input_length, CutChangesNothing, HoldsStart}
use Rattle.closest_state.proofs.Texts.{text_refuses}

pub cut_changes_nothing : CutChangesNothing
cut_changes_nothing file = cut_answered input_length file (omega arith) program_text (λ x. refusal_line (number_of x) (place_of x)) text_refuses

-- what was read into a buffer of that length has the text of its file
pub held_text : (file buffer : List ℕ) (n : ℕ) → length buffer ≡ input_length → HoldsStart file buffer n → program_text (take n buffer) ≡ program_text file
held_text file buffer n l h = ap program_text (h ∙ ap (λ (k : ℕ). take k file) l) ∙ cut_changes_nothing file
