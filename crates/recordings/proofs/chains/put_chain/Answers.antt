use mathlib.Core.Path.{refl}
use native.Mathlib.Omega.{arith}
use borrow.Author.Rules.{rules}
use Rattle.recordings.proofs.Steps.Chaining.{chaining_start, chaining_next, chaining_end}
use Rattle.recordings.proofs.chains.put_chain.Goals as goal

pub loop-i-init : goal.loop-i-init
loop-i-init c = record {
  chaining = chaining_start c.args.run.now c.args.room.now c.new-writer.ensures.place c.new-writer.ensures.out_after;
  same_buffer = refl;
}

pub loop-i-preserved : goal.loop-i-preserved
loop-i-preserved c = record {
  chaining = chaining_next c.args.run.now c.args.room.now c.loop-i.i (omega arith) c.loop-i.invariant.chaining (c.put.ensures.place, c.put.ensures.out_after);
  same_buffer = search rules;
}

pub returns : goal.returns
returns c =
    let put = chaining_end c.args.run.now c.args.room.now c.loop-i.i (omega arith) c.requires.0 c.requires.1 c.loop-i.invariant.chaining in
    (put.0, search (rules, put.1))
