use Rattle.std.proofs.Common.{◌≡◌, Ok, ℕ, List, true, sym, ap, subst, ◌∙◌}
use Rattle.std.proofs.lemmas.Result.{err_from_is_err_and}
use Rattle.text.specs.Placing.{Puts}
use Rattle.sheet.specs.Contents.{plan_body}
use Rattle.sheet.specs.Reading.{sheet_check}
use Rattle.sheet.specs.WellFormed.{WellFormedPlan}
use Rattle.branches.specs.Branches.{labelled, branch_fits, insertion_place, plan_with_at}
use Rattle.branches.specs.Internal.Inserting.{Inserting}
use Rattle.branches.proofs.Steps.Examining.{unread, plan_kept, examined_unfit, insertable, looking, examined}
use Rattle.branches.proofs.examining.examine.Goals as goal
use Rattle.branches.proofs.examining.examine.Goals.{After-fits, After-insert-n, After-place_of-place, After-plan_body-plan, Else-not-fits}

passed : (c : After-plan_body-plan) → sheet_check c.args.sheet.now ≡ Ok tt
passed c = sym c.in_ok-check.ensures.value

-- the plan that is looked at is the sheet's
well_formed : (c : After-plan_body-plan) → WellFormedPlan c.plan_body-plan.result.now
well_formed c = subst WellFormedPlan (sym c.plan_body-plan.ensures) (plan_kept c.args.sheet.now (labelled c.args.branch) (passed c))

place_is : (c : After-place_of-place) → c.place_of-place.result ≡ insertion_place (plan_body c.args.sheet.now) (labelled c.args.branch)
place_is c = c.place_of-place.ensures.0 ∙ ap (λ (p : List ℕ). insertion_place p (labelled c.args.branch)) c.plan_body-plan.ensures

fits_is : (c : After-fits) → c.fits.result ≡ branch_fits (plan_body c.args.sheet.now) (labelled c.args.branch)
fits_is c = c.fits.ensures ∙ ap (λ (p : List ℕ). branch_fits p (labelled c.args.branch)) c.plan_body-plan.ensures

taken : (c : Else-not-fits) → branch_fits (plan_body c.args.sheet.now) (labelled c.args.branch) ≡ true
taken c = sym (fits_is (goal.at.Else-not-fits c).After-fits) ∙ c.if-not-fits.false

-- the buffer once the plan with the branch is built
put : (c : After-insert-n)
    → Puts (plan_with_at (plan_body c.args.sheet.now) (labelled c.args.branch) c.place_of-place.result) c.insert-n.result c.args.room.now c.insert-n.new.room
put c =
    subst
    (λ (p : List ℕ). Puts (plan_with_at p (labelled c.args.branch) c.place_of-place.result) c.insert-n.result c.args.room.now c.insert-n.new.room)
    c.plan_body-plan.ensures c.insert-n.ensures

pub returns-in_err-check : goal.returns-in_err-check
returns-in_err-check c =
    let p = err_from_is_err_and c.from_residual.result c.from_residual.ensures.1 in
    rw (p.1, p.2) (unread c.args.sheet.now (labelled c.args.branch) _ (sym c.in_err-check.ensures.value) c.args.room.now)

pub place_of-place-requires : goal.place_of-place-requires
place_of-place-requires c = well_formed (goal.at.place_of-place-requires c).After-plan_body-plan

pub fits-requires-clause-well_formed_plan : goal.fits-requires-clause-well_formed_plan
fits-requires-clause-well_formed_plan c = well_formed (goal.at.fits-requires-clause-well_formed_plan c).After-plan_body-plan

pub returns-then-not-fits : goal.returns-then-not-fits
returns-then-not-fits c =
    let at = goal.at.returns-then-not-fits c in
    examined_unfit c.args.sheet.now (labelled c.args.branch) (passed at.After-plan_body-plan) (sym (fits_is at.After-fits) ∙ c.if-not-fits.true) _

pub insert-n-requires : goal.insert-n-requires
insert-n-requires c =
    let at = goal.at.insert-n-requires c in
    subst (λ (p : List ℕ). Inserting p c.place_of-place.result c.args.room.now) (sym c.plan_body-plan.ensures)
    (insertable c.args.sheet.now (labelled c.args.branch) (passed at.After-plan_body-plan) (taken at.Else-not-fits) _
    (place_is at.After-place_of-place) c.args.room.now c.requires)

pub look-requires : goal.look-requires
look-requires c =
    let at = goal.at.look-requires c in
    looking c.args.sheet.now (labelled c.args.branch) (passed at.After-plan_body-plan) (taken at.Else-not-fits) _
    (place_is at.After-place_of-place) c.args.room.now (put at.After-insert-n)

pub returns : goal.returns
returns c =
    let at = goal.at.returns c in
    examined c.args.sheet.now (labelled c.args.branch) (passed at.After-plan_body-plan) (taken at.Else-not-fits) _
    (place_is at.After-place_of-place) c.args.room.now (put at.After-insert-n) _ c.look.ensures
