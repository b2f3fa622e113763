use lib.ListN.{replicate}
use Rattle.recordings.specs.Internal.Chains.{chain_sheet_room}
use Rattle.recordings.proofs.Steps.Judging.{told}
use Rattle.recordings.proofs.chains.Recording.fails.Goals as goal

pub returns : goal.returns
returns c =
    told c.args.self.sheet.now c.args.self.run.now c.args.self.chain.now (replicate chain_sheet_room 0) c.args.self.judgeable c.put_sheet-n.ensures
    c.verdict_false.ensures
