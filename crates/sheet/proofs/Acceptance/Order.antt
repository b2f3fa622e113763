-- The refusals apply in rising order: a check gives the lowest number of a fault, and its place. The statement is RefusalsInOrder of
-- specs/RefusalOrder.antt.
use Prim.Native.Nat.{ℕ, suc, ◌<◌, ◌≤◌}
use mathlib.Core.Path.{◌≡◌, refl, sym, ap, subst, ◌∙◌}
use mathlib.Core.Bool.{Bool, true, false}
use mathlib.Core.List.{List}
use mathlib.Core.Logic.{◌⊎◌, ◌↔◌, inl, inr}
use native.Mathlib.Omega.{arith}
use native.Mathlib.Decide.{dec_lt}
use lib.ListN.{length}
use lib.Dec.{eqb, leb}
use borrow.Author.Tests.{leb-true, leb-false, eqb-true, eqb-false}
use Rattle.sheet.specs.Bytes.{lowest}
use Rattle.sheet.specs.Contents.{head_length, heading_right, contents_right, plan_body, actions_body, rule_body}
use Rattle.sheet.specs.Plan.{action_count, transition_count, plan_sized, transition_faulty, lowest_transition}
use Rattle.sheet.specs.Actions.{entry_count, actions_sized, entry_faulty, lowest_entry}
use Rattle.sheet.specs.Rule.{node_count, rule_sized, syntax_fault, binding_faulty, lowest_binding}
use Rattle.sheet.specs.GivenRefusals.{Lowest}
use Rattle.sheet.specs.Refusals.{number_of, place_of, require, and_then, CheckReport, reported_check}
use Rattle.sheet.specs.Reading.{plan_check, actions_check, rule_check, bodies_check, sheet_check, bodies_of, answer_read, read_of, reported_read}
use Rattle.sheet.specs.Writing.{sheet_length, write_check, answer_written, written_of, reported_write}
use Rattle.sheet.specs.RefusalOrder.{BodiesFault, SheetFault, WriteFault, First, RefusalsInOrder, GivenInOrder}
use Rattle.sheet.specs.declared.Bodies.{Bodies}
use Rattle.sheet.specs.declared.Refusal.{Refusal}
use Rattle.sheet.specs.declared.Refusal.TheVariants.{TooShort, Heading, Contents, PlanSize, TransitionFault}
use Rattle.sheet.specs.declared.Refusal.TheVariants.{ActionsSize, EntryFault, RuleSize, SyntaxFault, BindingFault, OutputShort}
use Rattle.std.specs.Prelude.{Result, Err, Ok}
use Rattle.sheet.specs.Refusals.{Check}
use Rattle.sheet.proofs.Steps.Sizes.{rule_limits}
use Rattle.sheet.proofs.Nodes.Faults.{faults_in_preorder, no_fault, a_fault}
use Rattle.sheet.proofs.Checks.Bools.{differ}
use Rattle.sheet.proofs.Checks.Checks.{none_found}
use Rattle.sheet.proofs.Checks.Lowest.{lowest_bound, lowest_found, lowest_below}

-- ---- checks that find the lowest number of a fault

module _ (Fault : ℕ → ℕ → Type 0) where
  -- no number from lo up to hi has a fault
  abbrev pub None : ℕ → ℕ → Type 0
  None lo hi = (j i : ℕ) → lo ≤ j → j < hi → Fault j i → ⊥

  -- of the numbers from lo up to hi the check gives the lowest that has a fault, and its place
  abbrev pub Tells : ℕ → ℕ → Check → Type 0
  Tells lo hi (Ok tt) = None lo hi
  Tells lo hi (Err x) = (lo ≤ number_of x) × (number_of x < hi) × Fault (number_of x) (place_of x) × None lo (number_of x)

  none_join : {lo mid hi : ℕ} → None lo mid → None mid hi → None lo hi
  none_join {lo} {mid} {hi} t u j i a b f = elim (dec_lt j mid) [ yes q ↦ t j i a q f | no q ↦ u j i (omega arith) b f ]

  tells_from : (lo mid hi : ℕ) → lo ≤ mid → None lo mid → (d : Check) → Tells mid hi d → Tells lo hi d
  tells_from lo mid hi l t (Ok tt) u = none_join t u
  tells_from lo mid hi l t (Err x) u = (omega (arith, u.0), u.1, u.2, none_join t u.3)

  tells_to : (lo mid hi : ℕ) → mid ≤ hi → None mid hi → (c : Check) → Tells lo mid c → Tells lo hi c
  tells_to lo mid hi h u (Ok tt) t = none_join t u
  tells_to lo mid hi h u (Err x) t = (t.0, omega (arith, t.1), t.2, t.3)

  tells_then : (lo mid hi : ℕ) (c d : Check) → lo ≤ mid → mid ≤ hi → Tells lo mid c → Tells mid hi d → Tells lo hi (and_then c d)
  tells_then lo mid hi (Ok tt) d l h t u = tells_from lo mid hi l t d u
  tells_then lo mid hi (Err x) d l h t u = (t.0, omega (arith, t.1), t.2, t.3)

  -- a test of the number of x
  module _ (kept : Bool) (x : Refusal) (none : kept ≡ true → (i : ℕ) → Fault (number_of x) i → ⊥) (some : kept ≡ false → Fault (number_of x) (place_of x)) where
    tells_last : Tells (number_of x) (suc (number_of x)) (require kept x)
    tells_last = go kept refl
      where
        go : (b : Bool) → kept ≡ b → Tells (number_of x) (suc (number_of x)) (require b x)
        go true e = λ j i a b f. none e i (subst (λ (k : ℕ). Fault k i) (omega arith) f)
        go false e = (omega arith, omega arith, some e, λ j i a b f. omega arith)

    -- and a check of the higher numbers where it passes
    tells_test : (hi : ℕ) (d : Check) → number_of x < hi → (kept ≡ true → Tells (suc (number_of x)) hi d) → Tells (number_of x) hi (and_then (require kept x) d)
    tells_test hi d l next = go kept refl tells_last
      where
        go : (b : Bool) → kept ≡ b → Tells (number_of x) (suc (number_of x)) (require b x) → Tells (number_of x) hi (and_then (require b x) d)
        go true e t = tells_from (number_of x) (suc (number_of x)) hi (omega arith) t d (next e)
        go false e t = (t.0, l, t.2, t.3)

  -- the number and the place that such a check gives
  decided : (lo hi : ℕ) → 1 ≤ lo → ((k m : ℕ) → Fault k m → (lo ≤ k) × (k < hi)) → ((k m m' : ℕ) → Fault k m → Fault k m' → m ≡ m')
      → (c : Check) → Tells lo hi c → (k m : ℕ) → 1 ≤ k → (((reported_check c).number ≡ k) × ((reported_check c).place ≡ m)) ↔ First Fault k m
  decided lo hi low range one (Ok tt) t k m l = (
    λ q. absurd (omega (arith, q.0)),
    λ f. let g = range k m f.found in absurd (t k m g.0 g.1 f.found),
  )
  decided lo hi low range one (Err x) t k m l = (
    λ q. record { found = subst (Fault k) q.1 (subst (λ (j : ℕ). Fault j (place_of x)) q.0 t.2); none_before = λ j i h f. t.3 j i (range j i f).0 (omega (arith, q.0)) f },
    λ f.
        let e : number_of x ≡ k = same f in
        (e, one k (place_of x) m (subst (λ (j : ℕ). Fault j (place_of x)) e t.2) f.found),
  )
    where
      same : First Fault k m → number_of x ≡ k
      same f =
          elim (dec_lt (number_of x) k) [
            | yes q ↦ absurd (f.none_before (number_of x) (place_of x) q t.2)
            | no q ↦ elim (dec_lt k (number_of x)) [
              | yes p ↦ absurd (t.3 k m (range k m f.found).0 p f.found)
              | no p ↦ omega arith
            ]
          ]

-- faults that are the same in a range are told alike
tells_alike : (F G : ℕ → ℕ → Type 0) (lo hi : ℕ) → ((k m : ℕ) → lo ≤ k → k < hi → F k m → G k m) → ((k m : ℕ) → lo ≤ k → k < hi → G k m → F k m)
    → (c : Check) → Tells F lo hi c → Tells G lo hi c
tells_alike F G lo hi to from (Ok tt) t = λ j i a b f. t j i a b (from j i a b f)
tells_alike F G lo hi to from (Err x) t =
    (t.0, t.1, to (number_of x) (place_of x) t.0 t.1 t.2, λ j i a b f. t.3 j i a b (from j i a (omega (arith, t.1)) f))

-- ---- the lowest number at which a test holds

lowest_here : (test : ℕ → Bool) (count : ℕ) → eqb (lowest test count) count ≡ false → Lowest test count (lowest test count)
lowest_here test count e =
    let l : lowest test count < count = omega (arith, lowest_bound test count, eqb-false (lowest test count) count e) in
    record { among = l; faulty = lowest_found test count l; none_before = lowest_below test count }

no_lowest : (test : ℕ → Bool) (count : ℕ) → eqb (lowest test count) count ≡ true → {i : ℕ} → Lowest test count i → ⊥
no_lowest test count e {i} l = differ (test i) l.faulty ((none_found test count).0 e i l.among)

one_lowest : {test : ℕ → Bool} {count n m : ℕ} → Lowest test count n → Lowest test count m → n ≡ m
one_lowest {test} {count} {n} {m} l k =
    elim (dec_lt n m) [
      | yes q ↦ absurd (differ (test n) l.faulty (k.none_before n q))
      | no q ↦ elim (dec_lt m n) [
        | yes p ↦ absurd (differ (test m) k.faulty (l.none_before m p))
        | no p ↦ omega arith
      ]
    ]

-- ---- three bodies

module _ (p a r : List ℕ) where
  abbrev pub BodiesOf : ℕ → ℕ → Type 0
  BodiesOf = BodiesFault p a r

  no_plan_size : plan_sized p ≡ true → (i : ℕ) → BodiesOf 4 i → ⊥
  no_plan_size e i (BodiesFault.plan_size q) = differ (plan_sized p) e q

  no_transition : eqb (lowest_transition p) (transition_count p) ≡ true → (i : ℕ) → BodiesOf 5 i → ⊥
  no_transition e i (BodiesFault.transition l) = no_lowest (transition_faulty p) (transition_count p) e l

  no_actions_size : actions_sized a ≡ true → (i : ℕ) → BodiesOf 6 i → ⊥
  no_actions_size e i (BodiesFault.actions_size q) = differ (actions_sized a) e q

  no_entry : eqb (lowest_entry (action_count p) a) (entry_count a) ≡ true → (i : ℕ) → BodiesOf 7 i → ⊥
  no_entry e i (BodiesFault.entry l) = no_lowest (entry_faulty (action_count p) a) (entry_count a) e l

  no_rule_size : rule_sized r ≡ true → (i : ℕ) → BodiesOf 8 i → ⊥
  no_rule_size e i (BodiesFault.rule_size q) = differ (rule_sized r) e q

  no_node : 1 ≤ node_count r → eqb (syntax_fault (entry_count a) r) (node_count r) ≡ true → (i : ℕ) → BodiesOf 9 i → ⊥
  no_node h e i (BodiesFault.node f) = no_fault (entry_count a) r h (eqb-true (syntax_fault (entry_count a) r) (node_count r) e) i f

  no_binding : eqb (lowest_binding r) (node_count r) ≡ true → (i : ℕ) → BodiesOf 10 i → ⊥
  no_binding e i (BodiesFault.binding l) = no_lowest (binding_faulty r) (node_count r) e l

  plan_tells : Tells BodiesOf 4 6 (plan_check p)
  unfolding plan_check
  plan_tells =
      tells_test BodiesOf (plan_sized p) PlanSize no_plan_size BodiesFault.plan_size 6 _ (omega arith)
      (λ e. tells_last BodiesOf (eqb (lowest_transition p) (transition_count p)) (TransitionFault (lowest_transition p)) no_transition
      (λ q. BodiesFault.transition (lowest_here (transition_faulty p) (transition_count p) q)))

  actions_tells : Tells BodiesOf 6 8 (actions_check (action_count p) a)
  unfolding actions_check
  actions_tells =
      tells_test BodiesOf (actions_sized a) ActionsSize no_actions_size BodiesFault.actions_size 8 _ (omega arith)
      (λ e. tells_last BodiesOf (eqb (lowest_entry (action_count p) a) (entry_count a)) (EntryFault (lowest_entry (action_count p) a)) no_entry
      (λ q. BodiesFault.entry (lowest_here (entry_faulty (action_count p) a) (entry_count a) q)))

  rule_tells : Tells BodiesOf 8 11 (rule_check (entry_count a) r)
  unfolding rule_check
  rule_tells =
      tells_test BodiesOf (rule_sized r) RuleSize no_rule_size BodiesFault.rule_size 11 _ (omega arith)
      (λ e. let h : 1 ≤ node_count r = (rule_limits r e).1 in
      tells_test BodiesOf (eqb (syntax_fault (entry_count a) r) (node_count r)) (SyntaxFault (record { 0 = syntax_fault (entry_count a) r })) (no_node h)
      (λ q. BodiesFault.node (a_fault (entry_count a) r h (eqb-false (syntax_fault (entry_count a) r) (node_count r) q))) 11 _ (omega arith)
      (λ f. tells_last BodiesOf (eqb (lowest_binding r) (node_count r)) (BindingFault (record { 0 = lowest_binding r })) no_binding
      (λ q. BodiesFault.binding (lowest_here (binding_faulty r) (node_count r) q))))

  pub bodies_tells : Tells BodiesOf 4 11 (bodies_check p a r)
  unfolding bodies_check
  bodies_tells =
      tells_then BodiesOf 4 6 11 (plan_check p) _ (omega arith) (omega arith) plan_tells
      (tells_then BodiesOf 6 8 11 (actions_check (action_count p) a) _ (omega arith) (omega arith) actions_tells rule_tells)

  pub bodies_range : (k m : ℕ) → BodiesOf k m → (4 ≤ k) × (k < 11)
  bodies_range k m (BodiesFault.plan_size q) = (omega arith, omega arith)
  bodies_range k m (BodiesFault.transition l) = (omega arith, omega arith)
  bodies_range k m (BodiesFault.actions_size q) = (omega arith, omega arith)
  bodies_range k m (BodiesFault.entry l) = (omega arith, omega arith)
  bodies_range k m (BodiesFault.rule_size q) = (omega arith, omega arith)
  bodies_range k m (BodiesFault.node f) = (omega arith, omega arith)
  bodies_range k m (BodiesFault.binding l) = (omega arith, omega arith)

  bodies_one : (k m m' : ℕ) → BodiesOf k m → BodiesOf k m' → m ≡ m'
  bodies_one k m m' (BodiesFault.plan_size q) (BodiesFault.plan_size q') = refl
  bodies_one k m m' (BodiesFault.transition l) (BodiesFault.transition l') = one_lowest l l'
  bodies_one k m m' (BodiesFault.actions_size q) (BodiesFault.actions_size q') = refl
  bodies_one k m m' (BodiesFault.entry l) (BodiesFault.entry l') = one_lowest l l'
  bodies_one k m m' (BodiesFault.rule_size q) (BodiesFault.rule_size q') = refl
  bodies_one k m m' (BodiesFault.node f) (BodiesFault.node f') = faults_in_preorder.one (entry_count a) r m m' f f'
  bodies_one k m m' (BodiesFault.binding l) (BodiesFault.binding l') = one_lowest l l'

-- ---- a sheet

module _ (s : List ℕ) where
  abbrev pub Inner : ℕ → ℕ → Type 0
  Inner = BodiesFault (plan_body s) (actions_body s) (rule_body s)

  inner_low : {k m : ℕ} → Inner k m → k < 4 → ⊥
  inner_low {k} {m} b h = omega (arith, bodies_range (plan_body s) (actions_body s) (rule_body s) k m b)

  no_short : leb head_length (length s) ≡ true → (i : ℕ) → SheetFault s 1 i → ⊥
  no_short e i (SheetFault.short q) = omega (arith, leb-true head_length (length s) e)
  no_short e i (SheetFault.bodies b) = inner_low b (omega arith)

  no_heading : heading_right s ≡ true → (i : ℕ) → SheetFault s 2 i → ⊥
  no_heading e i (SheetFault.heading q) = differ (heading_right s) e q
  no_heading e i (SheetFault.bodies b) = inner_low b (omega arith)

  no_contents : contents_right s ≡ true → (i : ℕ) → SheetFault s 3 i → ⊥
  no_contents e i (SheetFault.contents q) = differ (contents_right s) e q
  no_contents e i (SheetFault.bodies b) = inner_low b (omega arith)

  pub to_bodies : (k m : ℕ) → 4 ≤ k → SheetFault s k m → Inner k m
  to_bodies k m h (SheetFault.short q) = absurd (omega arith)
  to_bodies k m h (SheetFault.heading q) = absurd (omega arith)
  to_bodies k m h (SheetFault.contents q) = absurd (omega arith)
  to_bodies k m h (SheetFault.bodies b) = b

  pub sheet_range : (k m : ℕ) → SheetFault s k m → (1 ≤ k) × (k < 11)
  sheet_range k m (SheetFault.short q) = (omega arith, omega arith)
  sheet_range k m (SheetFault.heading q) = (omega arith, omega arith)
  sheet_range k m (SheetFault.contents q) = (omega arith, omega arith)
  sheet_range k m (SheetFault.bodies b) = let g = bodies_range (plan_body s) (actions_body s) (rule_body s) k m b in (omega arith, g.1)

  sheet_one : (k m m' : ℕ) → SheetFault s k m → SheetFault s k m' → m ≡ m'
  sheet_one k m m' (SheetFault.short q) (SheetFault.short q') = refl
  sheet_one k m m' (SheetFault.short q) (SheetFault.bodies b) = absurd (inner_low b (omega arith))
  sheet_one k m m' (SheetFault.heading q) (SheetFault.heading q') = refl
  sheet_one k m m' (SheetFault.heading q) (SheetFault.bodies b) = absurd (inner_low b (omega arith))
  sheet_one k m m' (SheetFault.contents q) (SheetFault.contents q') = refl
  sheet_one k m m' (SheetFault.contents q) (SheetFault.bodies b) = absurd (inner_low b (omega arith))
  sheet_one k m m' (SheetFault.bodies b) f =
      let g = bodies_range (plan_body s) (actions_body s) (rule_body s) k m b in
      bodies_one (plan_body s) (actions_body s) (rule_body s) k m m' b (to_bodies k m' g.0 f)

  pub sheet_tells : Tells (SheetFault s) 1 11 (sheet_check s)
  unfolding sheet_check
  sheet_tells =
      tells_test (SheetFault s) (leb head_length (length s)) TooShort no_short (λ e. SheetFault.short (leb-false head_length (length s) e)) 11 _ (omega arith)
      (λ e. tells_test (SheetFault s) (heading_right s) Heading no_heading SheetFault.heading 11 _ (omega arith)
      (λ f. tells_test (SheetFault s) (contents_right s) Contents no_contents SheetFault.contents 11 _ (omega arith)
      (λ g. tells_alike Inner (SheetFault s) 4 11 (λ k m a b f. SheetFault.bodies f) (λ k m a b f. to_bodies k m a f)
      (bodies_check (plan_body s) (actions_body s) (rule_body s)) (bodies_tells (plan_body s) (actions_body s) (rule_body s)))))

  sheet_order : (k m : ℕ) → 1 ≤ k → (((reported_check (sheet_check s)).number ≡ k) × ((reported_check (sheet_check s)).place ≡ m)) ↔ First (SheetFault s) k m
  sheet_order = decided (SheetFault s) 1 11 (omega arith) sheet_range sheet_one (sheet_check s) sheet_tells

-- ---- three bodies to be written

module _ (p a r : List ℕ) (room : ℕ) where
  abbrev pub Writing : ℕ → ℕ → Type 0
  Writing = WriteFault p a r room

  pub to_inner : (k m : ℕ) → k < 22 → Writing k m → BodiesFault p a r k m
  to_inner k m h (WriteFault.bodies b) = b
  to_inner k m h (WriteFault.output_short q) = absurd (omega arith)

  no_output : leb (sheet_length p a r) room ≡ true → (i : ℕ) → Writing 22 i → ⊥
  no_output e i (WriteFault.bodies b) = omega (arith, bodies_range p a r 22 i b)
  no_output e i (WriteFault.output_short q) = omega (arith, leb-true (sheet_length p a r) room e)

  pub write_range : (k m : ℕ) → Writing k m → (4 ≤ k) × (k < 23)
  write_range k m (WriteFault.bodies b) = let g = bodies_range p a r k m b in (g.0, omega arith)
  write_range k m (WriteFault.output_short q) = (omega arith, omega arith)

  write_one : (k m m' : ℕ) → Writing k m → Writing k m' → m ≡ m'
  write_one k m m' (WriteFault.bodies b) f =
      let g = bodies_range p a r k m b in
      bodies_one p a r k m m' b (to_inner k m' (omega arith) f)
  write_one k m m' (WriteFault.output_short q) (WriteFault.bodies b) = absurd (omega (arith, bodies_range p a r 22 m' b))
  write_one k m m' (WriteFault.output_short q) (WriteFault.output_short q') = refl

  pub write_tells : Tells Writing 4 23 (write_check p a r room)
  unfolding write_check
  write_tells =
      tells_then Writing 4 22 23 (bodies_check p a r) _ (omega arith) (omega arith)
      (tells_to Writing 4 11 22 (omega arith) (λ j i h l f. omega (arith, bodies_range p a r j i (to_inner j i l f))) (bodies_check p a r)
      (tells_alike (BodiesFault p a r) Writing 4 11 (λ k m h l f. WriteFault.bodies f) (λ k m h l f. to_inner k m (omega arith) f) (bodies_check p a r) (bodies_tells p a r)))
      (tells_last Writing (leb (sheet_length p a r) room) OutputShort no_output (λ e. WriteFault.output_short (leb-false (sheet_length p a r) room e)))

  write_order : (k m : ℕ) → 1 ≤ k → (((reported_check (write_check p a r room)).number ≡ k) × ((reported_check (write_check p a r room)).place ≡ m)) ↔ First Writing k m
  write_order = decided Writing 4 23 (omega arith) write_range write_one (write_check p a r room) write_tells

-- ---- the calls

-- number and place of what `read` and `write` report
abbrev read_part : (Result Bodies Refusal) → CheckReport
read_part x = record { number = (reported_read x).number; place = (reported_read x).place }

abbrev written_part : (Result ℕ Refusal) → CheckReport
written_part x = record { number = (reported_write x).number; place = (reported_write x).place }

read_part_lem : (b : Bodies) (c : Check) → read_part (answer_read b c) ≡ reported_check c
read_part_lem b (Ok tt) = refl
read_part_lem b (Err x) = refl

written_part_lem : (size : ℕ) (c : Check) → written_part (answer_written size c) ≡ reported_check c
written_part_lem size (Ok tt) = refl
written_part_lem size (Err x) = refl

read_gives : (s : List ℕ) (answer : Result Bodies Refusal) → answer ≡ read_of s → read_part answer ≡ reported_check (sheet_check s)
unfolding read_of
read_gives s answer e = ap read_part e ∙ read_part_lem (bodies_of s) (sheet_check s)

write_gives : (p a r : List ℕ) (room : ℕ) (answer : Result ℕ Refusal) → answer ≡ written_of p a r room → written_part answer ≡ reported_check (write_check p a r room)
unfolding written_of
write_gives p a r room answer e = ap written_part e ∙ written_part_lem (sheet_length p a r) (write_check p a r room)

same_report : {X : Type 0} (k m : ℕ) {x y : CheckReport} → x ≡ y → ((y.number ≡ k) × (y.place ≡ m)) ↔ X → ((x.number ≡ k) × (x.place ≡ m)) ↔ X
same_report {X} k m e iff = subst (λ (z : CheckReport). ((z.number ≡ k) × (z.place ≡ m)) ↔ X) (sym e) iff

pub refusals_in_order : RefusalsInOrder
refusals_in_order = record {
  sheets = sheet_order;
  reads = λ s answer c k m l. same_report k m (read_gives s answer c.0) (sheet_order s k m l);
  writes = λ p a r out answer out' c k m l. same_report k m (write_gives p a r (length out) answer c.0) (write_order p a r (length out) k m l);
}

-- a call that reports what the check of a sheet failed with, and else 0 or a number above 10
pub given_in_order : (s : List ℕ) (number place : ℕ) → ((x : Refusal) → sheet_check s ≡ Err x → (number ≡ number_of x) × (place ≡ place_of x))
    → (sheet_check s ≡ Ok tt → (number ≡ 0) ⊎ (10 < number)) → GivenInOrder s number place
given_in_order s number place refuses accepts k m l h = go (sheet_check s) refl
  where
    found : (c : Check) → sheet_check s ≡ c → ((reported_check (sheet_check s)).number ≡ (reported_check c).number) × ((reported_check (sheet_check s)).place ≡ (reported_check c).place)
    found c e = (ap (λ (x : Check). (reported_check x).number) e, ap (λ (x : Check). (reported_check x).place) e)

    other : (number ≡ 0) ⊎ (10 < number) → number ≡ k → ⊥
    other (inl a) b = omega arith
    other (inr a) b = omega arith

    go : (c : Check) → sheet_check s ≡ c → ((number ≡ k) × (place ≡ m)) ↔ First (SheetFault s) k m
    go (Ok tt) e = (
      λ q. absurd (other (accepts e) q.0),
      λ f. let z : (reported_check (sheet_check s)).number ≡ k = ((sheet_order s k m l).1 f).0 in absurd (omega (arith, (found (Ok tt) e).0, z)),
    )
    go (Err x) e = (
      λ q. (sheet_order s k m l).0 ((found (Err x) e).0 ∙ sym (refuses x e).0 ∙ q.0, (found (Err x) e).1 ∙ sym (refuses x e).1 ∙ q.1),
      λ f. let z = (sheet_order s k m l).1 f in ((refuses x e).0 ∙ sym (found (Err x) e).0 ∙ z.0, (refuses x e).1 ∙ sym (found (Err x) e).1 ∙ z.1),
    )
