use Rattle.std.proofs.Common.{◌≡◌, ◌≤◌, ◌∙◌, Bool, ◌&&◌, length, sym, ap, rules}
use Rattle.text.specs.Numerals.{decimal_value}
use Rattle.sheet.proofs.Checks.Bools.{differ}
use Rattle.aut.specs.Internal.Passing.{within}
use Rattle.aut.proofs.Steps.Lines.{one_line}
use Rattle.aut.proofs.Steps.Passing.{passing_start, unreadable, passing_added, passing_kept, passed}
use Rattle.aut.proofs.pass.pass_over.Goals as goal
use Rattle.aut.proofs.pass.pass_over.Goals.{then-few+then-pass+then-is_within_limits, else-few, else-few-via-then-few+then-pass+else-is_within_limits, else-few-via-then-few+else-pass, else-few-via-else-few}

pub loop-rest-init : goal.loop-rest-init
loop-rest-init c = passing_start _ _ _ _ c.requires.nothing_yet.0 c.requires.nothing_yet.1

pub returns-in_err-line : goal.returns-in_err-line
returns-in_err-line c =
    let some : 1 ≤ length c.loop-rest.rest.now = search rules in
    rw c.from_residual.ensures
    (unreadable c.args.text.now c.args.states.now c.args.few c.loop-rest.rest.now _ _ c.loop-rest.invariant some c.in_err-line.ensures)

pub loop-rest-smaller : goal.loop-rest-smaller
loop-rest-smaller c =
    let some : 1 ≤ length c.loop-rest.rest.now = search rules in
    (one_line c.loop-rest.rest.now some c.in_ok-line.ensures.1).2

pub loop-rest-preserved : goal.loop-rest-preserved
loop-rest-preserved c =
    let l = c.loop-rest in
    let a = c.args in
    let some : 1 ≤ length l.rest.now = search rules in
    let e = c.in_ok-line.ensures in
    let d = ap (λ (b : Bool). l.pass.below && b) c.is_line_below.ensures in
    let kept =
    passing_kept a.text.now a.states.now a.few l.rest.now l.pass l.gathered l.invariant some c.in_ok-line.left.now e.1 c.in_ok-line.line
    e.0 c.requires.states_read.0 c.requires.states_read.1 _ d in
    elim c.if-few.branch [
      | then-few+then-pass+then-is_within_limits w ↦
          rw (w.gathered-is, w.add.ensures)
          (passing_added a.text.now a.states.now a.few l.rest.now l.pass l.gathered l.invariant some c.in_ok-line.left.now e.1
          c.in_ok-line.line e.0 c.requires.states_read.0 c.requires.states_read.1 _ d w.if-pass.true w.if-few.true
          (sym w.is_within_limits.ensures ∙ w.if-is_within_limits.true))
      | else-few w ↦ rw w.gathered-is (elim w.else-few.branch [
        | else-few-via-then-few+then-pass+else-is_within_limits v ↦
            kept (λ b f i. differ (within l.gathered) i (sym v.is_within_limits.ensures ∙ v.if-is_within_limits.false))
        | else-few-via-then-few+else-pass v ↦ kept (λ b f i. differ _ b v.if-pass.false)
        | else-few-via-else-few v ↦ kept (λ b f i. differ a.few f v.if-few.false)
      ])
    ]

pub returns : goal.returns
returns c =
    let none : length c.loop-rest.rest.now ≡ 0 = search rules in
    passed c.args.text.now (decimal_value c.args.states.now) c.args.few c.loop-rest.rest.now _ _ c.loop-rest.invariant none
