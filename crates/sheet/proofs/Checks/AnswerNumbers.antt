-- The number of an answer is the one that it reports.
use mathlib.Core.Path.{refl, sym}
use Rattle.std.specs.Prelude.{Ok, Err}
use Rattle.sheet.specs.AnswerNumbers.{AnswerNumbers}

pub answer_numbers : AnswerNumbers
answer_numbers = record {
  exactly = λ reported accepted. elim [ Ok x ↦ sym (accepted x) | Err e ↦ refl ];
}
