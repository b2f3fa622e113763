-- The refusals that the reader and the writer give: their numbers, of which none is 0, and their places. The statement is GivenRefusals of
-- specs/GivenRefusals.antt.
use Prim.Native.Nat.{ℕ, ◌<◌, ◌≤◌}
use mathlib.Core.Path.{◌≡◌, refl, subst}
use mathlib.Core.List.{List}
use mathlib.Core.Logic.{◌⊎◌, inl, inr, ◌≢◌}
use native.Mathlib.Omega.{arith}
use Rattle.sheet.specs.Contents.{plan_body, actions_body, rule_body}
use Rattle.sheet.specs.Plan.{action_count, transition_count, transition_faulty}
use Rattle.sheet.specs.Actions.{entry_count, entry_faulty}
use Rattle.sheet.specs.Rule.{node_count, binding_faulty}
use Rattle.sheet.specs.FirstFault.{RuleFault}
use Rattle.sheet.specs.Refusals.{number_of, place_of}
use Rattle.sheet.specs.Reading.{bodies_check, sheet_check}
use Rattle.sheet.specs.Writing.{write_check}
use Rattle.sheet.specs.GivenRefusals.{Lowest, Placed, GivenRefusals}
use Rattle.sheet.specs.RefusalOrder.{BodiesFault, SheetFault, WriteFault}
use Rattle.sheet.specs.declared.Refusal.{Refusal}
use Rattle.sheet.specs.declared.Refusal.TheVariants.{TooShort, Heading, Contents, PlanSize, TransitionFault, ActionsSize, EntryFault, RuleSize}
use Rattle.sheet.specs.declared.Refusal.TheVariants.{SyntaxFault, BindingFault, NoSuchState, Loop, TooManyStates, TableShort, TableByte, OutputShort}
use Rattle.std.specs.Prelude.{Err}
use Rattle.sheet.proofs.Acceptance.Order.{Tells, bodies_range, bodies_tells, to_bodies, sheet_range, sheet_tells, to_inner, write_tells}

pub refused_number : (x : Refusal) → 0 < number_of x
refused_number TooShort = omega arith
refused_number Heading = omega arith
refused_number Contents = omega arith
refused_number PlanSize = omega arith
refused_number (TransitionFault t) = omega arith
refused_number ActionsSize = omega arith
refused_number (EntryFault e) = omega arith
refused_number RuleSize = omega arith
refused_number (SyntaxFault n) = omega arith
refused_number (BindingFault n) = omega arith
refused_number NoSuchState = omega arith
refused_number Loop = omega arith
refused_number TooManyStates = omega arith
refused_number TableShort = omega arith
refused_number TableByte = omega arith
refused_number OutputShort = omega arith

-- ---- the fault of a refusal

module _ (s : List ℕ) {x : Refusal} (e : sheet_check s ≡ Err x) where
  sheet_fault : SheetFault s (number_of x) (place_of x)
  sheet_fault = (subst (Tells (SheetFault s) 1 11) e (sheet_tells s)).2

  pub low_refusal : number_of x ≤ 10
  low_refusal = omega (arith, sheet_range s (number_of x) (place_of x) sheet_fault)

pub low_bodies : (p a r : List ℕ) {x : Refusal} → bodies_check p a r ≡ Err x → number_of x ≤ 10
low_bodies p a r {x} e = let t = subst (Tells (BodiesFault p a r) 4 11) e (bodies_tells p a r) in omega (arith, t.1)

write_fault : (p a r : List ℕ) (room : ℕ) {x : Refusal} → write_check p a r room ≡ Err x → WriteFault p a r room (number_of x) (place_of x)
write_fault p a r room e = (subst (Tells (WriteFault p a r room) 4 23) e (write_tells p a r room)).2

-- ---- numbers

writer_number : (p a r : List ℕ) (room k m : ℕ) → WriteFault p a r room k m → ((4 ≤ k) × (k ≤ 10)) ⊎ (k ≡ 22)
writer_number p a r room k m (WriteFault.bodies b) = let g = bodies_range p a r k m b in inl (g.0, omega arith)
writer_number p a r room k m (WriteFault.output_short q) = inr refl

-- ---- places

-- the number k is none of those that have a place
abbrev Placeless : ℕ → Type 0
Placeless k = (k ≢ 5) × (k ≢ 7) × (k ≢ 9) × (k ≢ 10)

module _ (p a r : List ℕ) where
  transition_of_lem : {m : ℕ} → BodiesFault p a r 5 m → Lowest (transition_faulty p) (transition_count p) m
  transition_of_lem (BodiesFault.transition l) = l

  entry_of : {m : ℕ} → BodiesFault p a r 7 m → Lowest (entry_faulty (action_count p) a) (entry_count a) m
  entry_of (BodiesFault.entry l) = l

  node_of : {m : ℕ} → BodiesFault p a r 9 m → RuleFault (entry_count a) r m
  node_of (BodiesFault.node f) = f

  binding_of : {m : ℕ} → BodiesFault p a r 10 m → Lowest (binding_faulty r) (node_count r) m
  binding_of (BodiesFault.binding l) = l

  no_place : (k m : ℕ) → BodiesFault p a r k m → Placeless k → m ≡ 0
  no_place k m (BodiesFault.plan_size q) g = refl
  no_place k m (BodiesFault.transition l) g = absurd (g.0 refl)
  no_place k m (BodiesFault.actions_size q) g = refl
  no_place k m (BodiesFault.entry l) g = absurd (g.1 refl)
  no_place k m (BodiesFault.rule_size q) g = refl
  no_place k m (BodiesFault.node f) g = absurd (g.2 refl)
  no_place k m (BodiesFault.binding l) g = absurd (g.3 refl)

  -- a refusal whose fault, from 4 to 10, is one of the bodies
  placed : (x : Refusal) → (4 ≤ number_of x → number_of x ≤ 10 → BodiesFault p a r (number_of x) (place_of x)) → (Placeless (number_of x) → place_of x ≡ 0) → Placed p a r x
  placed x fault none = record {
    transition = λ q. transition_of_lem (at 5 q (omega arith) (omega arith));
    entry = λ q. entry_of (at 7 q (omega arith) (omega arith));
    node = λ q. binding_of (at 10 q (omega arith) (omega arith));
    in_preorder = λ q. node_of (at 9 q (omega arith) (omega arith));
    others = λ five seven nine ten. none (five, seven, nine, ten);
  }
    where
      at : (k : ℕ) → number_of x ≡ k → 4 ≤ number_of x → number_of x ≤ 10 → BodiesFault p a r k (place_of x)
      at k q l h = subst (λ (j : ℕ). BodiesFault p a r j (place_of x)) q (fault l h)

sheet_placeless : (s : List ℕ) (k m : ℕ) → SheetFault s k m → Placeless k → m ≡ 0
sheet_placeless s k m (SheetFault.short q) g = refl
sheet_placeless s k m (SheetFault.heading q) g = refl
sheet_placeless s k m (SheetFault.contents q) g = refl
sheet_placeless s k m (SheetFault.bodies b) g = no_place (plan_body s) (actions_body s) (rule_body s) k m b g

write_placeless : (p a r : List ℕ) (room k m : ℕ) → WriteFault p a r room k m → Placeless k → m ≡ 0
write_placeless p a r room k m (WriteFault.bodies b) g = no_place p a r k m b g
write_placeless p a r room k m (WriteFault.output_short q) g = refl

pub given_refusals : GivenRefusals
given_refusals = record {
  numbers = λ s x e. (refused_number x, low_refusal s e);
  places = λ s x e.
      let f = sheet_fault s e in
      placed (plan_body s) (actions_body s) (rule_body s) x (λ l h. to_bodies s (number_of x) (place_of x) l f) (sheet_placeless s (number_of x) (place_of x) f);
  writer_numbers = λ p a r room x e. writer_number p a r room (number_of x) (place_of x) (write_fault p a r room e);
  writer_places = λ p a r room x e.
      let f = write_fault p a r room e in
      placed p a r x (λ l h. to_inner p a r room (number_of x) (place_of x) (omega arith) f) (write_placeless p a r room (number_of x) (place_of x) f);
}
