use Rattle.recordings.proofs.Steps.Searching.{Searched}
use Rattle.recordings.proofs.searching.search.Given as goal

abbrev pub invariant-loop-n : goal.invariant-loop-n
invariant-loop-n l = Searched l.first.sheet.now l.first.run.now l.second.run.now l.n
