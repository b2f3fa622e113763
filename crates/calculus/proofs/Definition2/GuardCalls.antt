-- The guard check answers yes exactly when the rule is guarded, said of every call. The statement is GuardExactly of specs/GuardCheck.antt.
use Prim.Native.Nat.{ℕ}
use mathlib.Core.Path.{◌≡◌, refl, sym, ap, ◌∙◌}
use mathlib.Core.Bool.{true, false}
use mathlib.Core.Logic.{◌↔◌, inl}
use native.Mathlib.Omega.{arith}
use mathlib.Core.List.{List}
use Rattle.sheet.specs.Reading.{sheet_check}
use Rattle.std.specs.Prelude.{Bool, Result, Err, Ok}
use Rattle.sheet.specs.Refusals.{Check}
use Rattle.sheet.specs.declared.Refusal.{Refusal}
use Rattle.sheet.specs.Refusals.{number_of, place_of}
use Rattle.sheet.specs.WellFormed.{WellFormedSheet}
use Rattle.sheet.proofs.Acceptance.Numbers.{refused_number}
use Rattle.sheet.proofs.Acceptance.Order.{given_in_order}
use Rattle.sheet.proofs.Acceptance.Sheet.{accepted_iff}
use Rattle.calculus.specs.GuardCheck.{guarded_rule, answer_guard, guard_of, GuardReport, reported_guard, Guards, GuardCorrect, GuardExactly}
use Rattle.calculus.proofs.Definition2.GuardSteps.{guard_refused}

module _ (s : List ℕ) (r : Result Bool Refusal) (c : Guards s r) where
  guard_accepted : sheet_check s ≡ Ok tt → r ≡ Ok (guarded_rule s)
  unfolding guard_of
  guard_accepted e = c.0 ∙ ap (answer_guard s) e

  correct : GuardCorrect s r
  correct = record {
    answered = λ e. ap reported_guard (guard_accepted e);
    exactly = λ e. (λ q. same (sym q ∙ guard_accepted e), λ q. guard_accepted e ∙ ap Ok q);
    refused = refuses;
    accepted = by_check (sheet_check s) refl;
    in_order = given_in_order s (reported_guard r).number (reported_guard r).place
        (λ x e. (ap (λ (g : GuardReport). g.number) (refuses x e), ap (λ (g : GuardReport). g.place) (refuses x e)))
        (λ e. inl (ap (λ (a : Result Bool Refusal). (reported_guard a).number) (guard_accepted e)));
  }
    where
      refuses : (x : Refusal) → sheet_check s ≡ Err x → reported_guard r ≡ record { number = number_of x; place = place_of x; answer = false }
      refuses x e = ap reported_guard (c.0 ∙ sym (guard_refused s x e))

      by_check : (k : Check) → sheet_check s ≡ k → ((reported_guard r).number ≡ 0) ↔ WellFormedSheet s
      by_check (Ok tt) e = (λ q. (accepted_iff s).0 e, λ w. ap (λ (a : Result Bool Refusal). (reported_guard a).number) (guard_accepted e))
      by_check (Err x) e = (
        λ q. absurd (omega (arith, refused_number x, ap (λ (g : GuardReport). g.number) (refuses x e))),
        λ w. absurd (let f : (Ok tt) ≡ Err x = sym ((accepted_iff s).1 w) ∙ e in let z : ◌≡◌ {A = ℕ} 0 1 = cc in omega arith),
      )

      same : ◌≡◌ {A = Result Bool Refusal} (Ok true) (Ok (guarded_rule s)) → guarded_rule s ≡ true
      same q = cc

pub guard_exactly : GuardExactly
guard_exactly = correct
