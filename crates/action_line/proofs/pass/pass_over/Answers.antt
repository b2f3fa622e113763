-- `action_line::pass::pass_over` meets its contract.
use Rattle.std.proofs.Common.{◌≡◌, ◌+◌, ◌≤◌, ◌&&◌, [], Option, None, Err, refl, sym, ap, ◌∙◌, length, arith}
use Rattle.std.specs.Option.{ok_or}
use Rattle.std.proofs.lemmas.Result.{err_from_is_err_and}
use Rattle.action_line.specs.Precedence.{ended}
use Rattle.action_line.specs.Reading.{failed}
use Rattle.action_line.specs.declared.ParseError.TheVariants.{Unreadable}
use Rattle.action_line.specs.Internal.Lexemes.{held}
use Rattle.action_line.specs.Internal.Checking.{expected_by, expected_or_failed}
use Rattle.action_line.specs.Internal.Building.{entries_in_place, state_of}
use Rattle.action_line.proofs.Steps.Survey.{one_at_most, over_token}
use Rattle.action_line.proofs.Steps.Passing.{Passes, no_more_tokens, pass_starts, pass_over_token, pass_ends, pass_fails}
use Rattle.action_line.proofs.pass.pass_over.Goals as goal
use Rattle.action_line.proofs.pass.pass_over.Goals.{After-is_complete, then-entries-le-MOST_ENTRIES-2, else-entries-le-MOST_ENTRIES-2}

pub loop-token-init : goal.loop-token-init
loop-token-init c =
    let a = c.args in
    let e = c.into_iter-token-iterator.ensures.into_iter_gives in
    rw (e, c.new-token-items.ensures) (pass_starts a.actions a.line.now a.builder.now c.requires)

pub after-requires : goal.after-requires
after-requires c =
    omega (arith, c.loop-token.invariant.surveyed.shallow, ap length c.in-Some.ensures.steps, no_more_tokens c.args.line.now)

same_error : {X E : Type 0} {o : Option X} (x y : E) → Err x ≡ ok_or o y → o ≡ None → x ≡ y
same_error x y q n = let e : Err x ≡ Err y = rw n at q in cc

pub returns-in_err-expected : goal.returns-in_err-expected
returns-in_err-expected c =
    let p = err_from_is_err_and c.from_residual.result c.from_residual.ensures.1 in
    let none = same_error _ Unreadable c.in_err-expected.ensures.value c.in_err-expected.ensures.ok_part in
    let e : failed ≡ expected_or_failed c.after.result = rw c.in_err-expected.ensures.ok_part refl in
    rw (p.1, p.2, none)
    (pass_fails c.args.actions c.args.line.now c.args.builder.now.made
    (over_token c.args.actions _ c.loop-token.invariant.surveyed c.in-Some.ensures.steps (e ∙ c.after.ensures) refl refl) _)

pub overflow_add-entries : goal.overflow_add-entries
overflow_add-entries c =
    omega (arith, c.loop-token.invariant.surveyed.few, ap length c.in-Some.ensures.steps, no_more_tokens c.args.line.now, c.entries-entries.ensures, one_at_most (held c.in-Some.token))

pub step-requires-clause-shallow : goal.step-requires-clause-shallow
step-requires-clause-shallow c =
    omega (arith, (c.loop-token.invariant.continues (omega arith)).shallow, ap length c.in-Some.ensures.steps, no_more_tokens c.args.line.now)

pub loop-token-preserved-then-entries-le-MOST_ENTRIES : goal.loop-token-preserved-then-entries-le-MOST_ENTRIES
loop-token-preserved-then-entries-le-MOST_ENTRIES c =
    let a = c.args in
    let l = c.loop-token in
    pass_over_token a.actions a.line.now a.builder.now.made l.invariant c.in-Some.ensures.steps
    (ap expected_or_failed (sym c.in_ok-expected.ensures.ok_part) ∙ c.after.ensures) (ap (l.known &&◌) c.is_known-known.ensures)
    (ap (l.entries +◌) c.entries-entries.ensures) (λ few. c.step.ensures)

pub loop-token-preserved : goal.loop-token-preserved
loop-token-preserved c =
    let a = c.args in
    let l = c.loop-token in
    pass_over_token a.actions a.line.now a.builder.now.made l.invariant c.in-Some.ensures.steps
    (ap expected_or_failed (sym c.in_ok-expected.ensures.ok_part) ∙ c.after.ensures) (ap (l.known &&◌) c.is_known-known.ensures)
    (ap (l.entries +◌) c.entries-entries.ensures) (λ few. absurd (omega arith))

-- behind the last token
at_end : (c : After-is_complete) → Passes c.args.actions c.args.line.now c.args.builder.now.made (expected_by c.loop-token.expected) c.loop-token.known c.loop-token.entries c.loop-token.builder []
at_end c = rw c.in-None.ensures.steps.0 at c.loop-token.invariant

ended_there : (c : After-is_complete) → c.loop-token.entries ≤ 32
    → state_of c.if-entries-le-MOST_ENTRIES-2.builder ≡ ended entries_in_place (state_of c.loop-token.builder)
ended_there c few =
    elim c.if-entries-le-MOST_ENTRIES-2.branch [
      | then-entries-le-MOST_ENTRIES-2 w ↦ rw w.builder-is w.end.ensures.state
      | else-entries-le-MOST_ENTRIES-2 w ↦ absurd (omega (arith, w.if-entries-le-MOST_ENTRIES-2.false))
    ]

pub returns-then-not-is_complete : goal.returns-then-not-is_complete
returns-then-not-is_complete c =
    let d = (goal.at.returns-then-not-is_complete c).After-is_complete in
    pass_ends c.args.actions c.args.line.now c.args.builder.now.made d.if-entries-le-MOST_ENTRIES-2.builder (at_end d) (ended_there d) _ (rw (← c.if-not-is_complete.ensures) refl)

pub returns-then-not-known : goal.returns-then-not-known
returns-then-not-known c =
    let d = (goal.at.returns-then-not-known c).After-is_complete in
    pass_ends c.args.actions c.args.line.now c.args.builder.now.made d.if-entries-le-MOST_ENTRIES-2.builder (at_end d) (ended_there d) _ (rw (← c.if-not-is_complete.ensures, c.if-not-known.true) refl)

pub returns : goal.returns
returns c =
    let d = (goal.at.returns c).After-is_complete in
    pass_ends c.args.actions c.args.line.now c.args.builder.now.made d.if-entries-le-MOST_ENTRIES-2.builder (at_end d) (ended_there d) _ (rw (← c.if-not-is_complete.ensures, c.if-not-known.false) refl)
