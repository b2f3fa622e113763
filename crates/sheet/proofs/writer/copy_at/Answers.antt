-- `sheet::writer::copy_at` meets its contract.
use Rattle.sheet.proofs.Steps.Writing.{copied_part}
use Rattle.sheet.proofs.writer.copy_at.Goals as goal

pub returns : goal.returns
returns c = let start = c in
    copied_part start.args.out.now start.args.src.now _ start.args.at start.requires c.copy_from_slice.ensures.after
