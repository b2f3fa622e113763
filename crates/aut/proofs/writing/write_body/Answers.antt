use Rattle.std.proofs.Common.{◌∙◌, List, ℕ, ◌++◌, take, drop, get_or, refl, ap, arith}
use Rattle.aut.specs.Internal.Keys.{key_bytes}
use Rattle.aut.proofs.Steps.Writing.{after_none, after_next, after_all}
use Rattle.aut.proofs.writing.write_body.Goals as goal

pub loop-i-init : goal.loop-i-init
loop-i-init c = after_none c.args.out.now c.args.keys.now _ _ _ _ (ap (◌++ drop 4 c.args.out.now) c.copy_from_slice.ensures.after)

pub loop-i-preserved : goal.loop-i-preserved
unfolding key_bytes
loop-i-preserved c =
    after_next c.args.out.now c.args.keys.now _ _ _ _ c.loop-i.i (omega arith) c.loop-i.invariant
    (c.copy_from_slice-in-loop-i.ensures.after ∙ ap (λ (b : List ℕ). take 3 (drop 1 b)) c.to_be_bytes.ensures)

pub returns : goal.returns
returns c =
    let b = c.to_le_bytes.ensures in
    record {
      short = λ h. absurd (omega arith);
      wrote = λ h. (
        refl,
        c.loop-i.invariant
            ∙ after_all c.args.out.now c.args.keys.now _ _ _ _ c.loop-i.i (omega arith) (ap (λ (l : List ℕ). get_or l 0 0) b)
            (ap (λ (l : List ℕ). get_or l 1 0) b),
      );
    }
