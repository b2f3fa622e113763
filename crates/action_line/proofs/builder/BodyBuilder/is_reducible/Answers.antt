-- `action_line::builder::BodyBuilder::is_reducible` meets its contract.
use native.Mathlib.Omega.{arith}
use Rattle.std.proofs.Common.{◌<◌, rules, refl}
use borrow.Author.Tests.{eq-eqb, ne_eqb}
use Rattle.action_line.proofs.Steps.Reducing.{last_of, none_waiting, some_waiting}
use Rattle.action_line.proofs.builder.BodyBuilder.is_reducible.Goals as goal

pub returns-then-self-eq0-clause-value : goal.returns-then-self-eq0-clause-value
returns-then-self-eq0-clause-value c = let s = c.args.self.now in rw (none_waiting s.waiting s.top (omega arith)) refl

pub returns-then-last-self-clause-value : goal.returns-then-last-self-clause-value
returns-then-last-self-clause-value c =
    let s = c.args.self.now in
    let l : 0 < s.top = omega arith in
    rw (some_waiting s.waiting s.top l, eq-eqb (last_of s.waiting s.top).depth s.depth (omega arith)) (search rules)

pub returns-else-last-self-clause-value : goal.returns-else-last-self-clause-value
returns-else-last-self-clause-value c =
    let s = c.args.self.now in
    let l : 0 < s.top = omega arith in
    rw (some_waiting s.waiting s.top l, ne_eqb (last_of s.waiting s.top).depth s.depth (λ q. omega arith)) refl
