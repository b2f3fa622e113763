-- `trials::digits::digit` meets its contract: each of the sixteen digits is compared.
use Rattle.std.proofs.Common.{◌≡◌, ℕ, ◌+◌, ◌-◌, true, eqb, eqb-true, slice_index, refl, sym, arith}
use Rattle.std.proofs.lemmas.Bool.{agree_below_at}
use Rattle.hex.specs.Hex.{lower_digits}
use Rattle.trials.proofs.digits.digit.Goals as goal

pub returns-then-value-lt10 : goal.returns-then-value-lt10
returns-then-value-lt10 c =
    sym (eqb-true _ _ (agree_below_at (λ k. eqb (slice_index lower_digits k) (48 + k)) (λ _. true) 10 c.args.value refl (omega arith)))

pub returns-else-value-lt10 : goal.returns-else-value-lt10
returns-else-value-lt10 c =
    let k : ℕ = c.args.value - 10 in
    let place : 10 + k ≡ c.args.value = omega arith in
    let letter : slice_index lower_digits (10 + k) ≡ 97 + k =
    eqb-true _ _ (agree_below_at (λ k. eqb (slice_index lower_digits (10 + k)) (97 + k)) (λ _. true) 6 k refl (omega arith)) in
    sym (rw place at letter)
