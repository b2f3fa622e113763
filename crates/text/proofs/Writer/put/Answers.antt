use Rattle.std.proofs.Common.{◌+◌, ◌<◌, ◌≤◌, length, arith, sym, ◌∙◌}
use Rattle.text.proofs.Placing.{place_fitting, place_past, buffer_past, copied}
use Rattle.text.proofs.Writer.put.Goals as goal
use Rattle.text.proofs.Writer.put.Goals.{In_default, in_default-via-in-Some+else-end-self, in_default-via-in_default}

pub returns-in-Some-clause-place : goal.returns-in-Some-clause-place
returns-in-Some-clause-place c =
    let a = c.args in c.in-Some.ensures.1 ∙ sym (place_fitting a.text.now a.self.now.place a.self.now.out.now (omega (arith, c.in-Some.ensures)))

pub returns-in-Some-clause-out_after : goal.returns-in-Some-clause-out_after
returns-in-Some-clause-out_after c =
    let a = c.args in
    let fits : a.self.now.place + length a.text.now ≤ length a.self.now.out.now = omega (arith, c.in-Some.ensures) in
    rw c.in-Some.ensures.1 (copied a.text.now a.self.now.place a.self.now.out.now fits c.copy_from_slice.ensures.after)

module _ (c : In_default) where
  past : length c.args.self.now.out.now < c.args.self.now.place + length c.args.text.now
  past = elim c.in_default.branch [
    | in_default-via-in-Some+else-end-self w ↦ omega (arith, w.in-Some.ensures)
    | in_default-via-in_default w ↦ omega (arith, w.in_default.ensures)
  ]

pub returns-in_default-clause-place : goal.returns-in_default-clause-place
returns-in_default-clause-place c = let a = c.args in sym (place_past a.text.now a.self.now.place a.self.now.out.now (past (goal.at.returns-in_default-clause-place c).In_default))

pub returns-in_default-clause-out_after : goal.returns-in_default-clause-out_after
returns-in_default-clause-out_after c = let a = c.args in sym (buffer_past a.text.now a.self.now.place a.self.now.out.now (past (goal.at.returns-in_default-clause-out_after c).In_default))
