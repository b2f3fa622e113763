use Rattle.std.proofs.Common.{◌≤◌, length, refl, sym, ◌∙◌, arith}
use Rattle.std.proofs.lemmas.Result.{err_from_is_err_and}
use Rattle.branches.specs.Branches.{labelled}
use Rattle.branches.specs.Internal.Examining.{longest_plan, Ready}
use Rattle.branches.proofs.Steps.Committing.{refused, differing, same, differs, new_is, new_within, new_counted, wrote}
use Rattle.branches.proofs.committing.commit.Goals as goal
use Rattle.branches.proofs.committing.commit.Goals.{In_ok-fresh}

-- after an offer the plan with the branch stands in the buffer
ready : (c : In_ok-fresh) → Ready c.args.sheet.now (labelled c.args.transition) c.examine.new.room
ready c = c.in_ok-fresh.ensures.ready _ refl

room : (c : In_ok-fresh) → longest_plan ≤ length c.examine.new.room
room c = omega (arith, c.examine.auto.room)

pub returns-in_err-fresh : goal.returns-in_err-fresh
returns-in_err-fresh c =
    let p = err_from_is_err_and c.from_residual.result c.from_residual.ensures.1 in
    rw (p.1, p.2) (refused c.args.sheet.now c.args.transition c.args.proposal c.args.out.now c.in_err-fresh.ensures.answer _ refl)

pub returns-then-ne : goal.returns-then-ne
returns-then-ne c =
    let a = c.args in
    differs a.sheet.now a.transition a.proposal a.out.now c.in_ok-fresh.ensures.answer _ refl
    (differing a.proposal c.in_ok-fresh.fresh (sym c.ne.ensures ∙ c.if-ne.true))

pub slice_bounds-room-end : goal.slice_bounds-room-end
slice_bounds-room-end c =
    let f = (goal.at.slice_bounds-room-end c).In_ok-fresh in
    new_within c.args.sheet.now c.args.transition _ (ready f) c.plan_body.ensures (room f)

pub slice_bounds-write_with-end : goal.slice_bounds-write_with-end
slice_bounds-write_with-end c =
    let f = (goal.at.slice_bounds-write_with-end c).In_ok-fresh in
    new_counted c.args.sheet.now c.args.transition _ (ready f) c.plan_body.ensures (room f)

pub returns : goal.returns
returns c =
    let a = c.args in
    let f = (goal.at.returns c).In_ok-fresh in
    wrote a.sheet.now a.transition a.proposal a.out.now c.in_ok-fresh.ensures.answer _ refl
    (same a.proposal c.in_ok-fresh.fresh (sym c.ne.ensures ∙ c.if-ne.false))
    (new_is a.sheet.now a.transition _ (ready f) c.plan_body.ensures) c.write_with.ensures
