use Rattle.recordings.proofs.Steps.Judging.{on_small, on_middle, on_largest}
use Rattle.recordings.proofs.judging.verdict_false.Goals as goal

pub returns-then-size-le-SMALL_TABLE : goal.returns-then-size-le-SMALL_TABLE
returns-then-size-le-SMALL_TABLE c = on_small c.args.sheet.now c.table_size-size.ensures c.if-size-le-SMALL_TABLE.true c.false_on_zeros.ensures

pub returns-then-size-le-MIDDLE_TABLE : goal.returns-then-size-le-MIDDLE_TABLE
returns-then-size-le-MIDDLE_TABLE c = on_middle c.args.sheet.now c.table_size-size.ensures c.if-size-le-SMALL_TABLE.false c.if-size-le-MIDDLE_TABLE.true c.false_on_zeros-then-size-le-MIDDLE_TABLE.ensures

pub returns-else-size-le-MIDDLE_TABLE : goal.returns-else-size-le-MIDDLE_TABLE
returns-else-size-le-MIDDLE_TABLE c = on_largest c.args.sheet.now c.table_size-size.ensures c.if-size-le-SMALL_TABLE.false c.if-size-le-MIDDLE_TABLE.false c.false_on_zeros-else-size-le-MIDDLE_TABLE.ensures
