-- What was read has the text of its file.
use Rattle.std.proofs.Common.{List, ℕ, ◌+◌, refl, subst, arith}
use Rattle.text.specs.Placing.{Puts}
use Rattle.counter_report.proofs.Cutting.{held_text}
use Rattle.counter_report.proofs.answer.report_input.Goals as goal

pub returns-clause-puts_text_of_file : goal.returns-clause-puts_text_of_file
returns-clause-puts_text_of_file c =
    let a = c.args in
    let put = c.report_text in
    let count = c.count_read-count in
    let start = c.min-start in
    λ file h. subst (λ (l : List ℕ). Puts l put.result a.text.now put.new.text)
    (held_text a.input.now a.n c.requires.prefix_len.0 file count.result start.result (1 + count.result) h count.ensures.value start.ensures refl (omega arith))
    put.ensures.puts
