use Rattle.std.proofs.Common.{ℕ, ◌+◌, drop, sym, ap, ◌∙◌, arith}
use Rattle.branches.specs.Tags.{tag_from}
use Rattle.branches.proofs.Tags.Turns.{turn, end}
use Rattle.branches.proofs.tagging.tag.Goals as goal

pub loop-byte-preserved : goal.loop-byte-preserved
loop-byte-preserved c =
    let l = c.loop-byte in
    let bytes = c.args.sheet.now in
    l.invariant ∙ turn bytes l.tag l.byte-index (omega arith)
    ∙ ap (λ (k : ℕ). tag_from k (drop (l.byte-index + 1) bytes)) (sym c.tag_with-tag.ensures)

pub returns : goal.returns
returns c = let l = c.loop-byte in sym (l.invariant ∙ end c.args.sheet.now l.tag l.byte-index (omega arith))
