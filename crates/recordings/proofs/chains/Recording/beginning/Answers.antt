use Rattle.recordings.proofs.Steps.Judging.{front_counted, front_judgeable}
use Rattle.recordings.proofs.chains.Recording.beginning.Goals as goal

pub slice_bounds-result-end-2 : goal.slice_bounds-result-end-2
slice_bounds-result-end-2 c = front_counted c.args.self.sheet.now c.args.self.run.now c.args.self.chain.now c.args.n c.args.self.judgeable c.requires

pub invariant_of-result : goal.invariant_of-result
invariant_of-result c =
    record { judgeable = front_judgeable c.args.self.sheet.now c.args.self.run.now c.args.self.chain.now c.args.n c.args.self.judgeable c.requires }
