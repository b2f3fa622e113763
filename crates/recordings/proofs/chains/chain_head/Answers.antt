use Rattle.recordings.proofs.Steps.Chaining.{head_is}
use Rattle.recordings.proofs.chains.chain_head.Goals as goal

pub returns : goal.returns
returns c = head_is c.args.actions c.args.n c.requires
