-- The answer is the program's.
use Rattle.plan_judge.proofs.judging.judge_line.Goals as goal

pub returns-clause-puts : goal.returns-clause-puts
returns-clause-puts c = rw c.judge_start.ensures at c.put_line.ensures.puts
