-- What was read has the line of its file.
use Rattle.std.proofs.Common.{List, ℕ, subst}
use Rattle.text.specs.Placing.{Puts}
use Rattle.plan_judge.proofs.Cutting.{held_line}
use Rattle.plan_judge.proofs.judging.judge_input.Goals as goal

pub returns-clause-puts_line_of_file : goal.returns-clause-puts_line_of_file
returns-clause-puts_line_of_file c = λ file h. subst
    (λ (l : List ℕ). Puts l c.judge_line.result c.args.text.now c.judge_line.new.text)
    (held_line file c.args.input.now c.args.n c.requires.input_len h) c.judge_line.ensures.puts
