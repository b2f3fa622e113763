use Rattle.std.proofs.Common.{rules}
use Rattle.sheet.specs.Reading.{read_of}
use Rattle.sheet.proofs.reader.read.Goals as goal

pub returns-in_err-check : goal.returns-in_err-check
unfolding read_of
returns-in_err-check c = search rules

pub returns : goal.returns
unfolding read_of
returns c = search rules
