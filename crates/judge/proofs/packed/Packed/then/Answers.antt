-- `judge::packed::Packed::then` meets its contract.
use Rattle.judge.proofs.Steps.PackedVerdicts.{visits_added}
use Rattle.judge.proofs.packed.Packed.then.Goals as goal

pub returns : goal.returns
returns c = visits_added _ _
