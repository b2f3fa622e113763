-- Round after round: what a visit keeps, that rounds end, that it does not matter how many are allowed, and how many there are.
use Prim.Native.Nat.{ℕ, zero, suc, ◌+◌, ◌-◌, ◌<◌, ◌≤◌, min}
use mathlib.Core.Path.{◌≡◌, refl, sym, ap, subst, ◌∙◌}
use mathlib.Core.Bool.{Bool, true, false, ◌&&◌, ◌||◌, true≢false}
use mathlib.Core.List.{List, [], ◌∷◌}
use mathlib.Core.Logic.{◌⊎◌, inl, inr}
use native.Mathlib.Omega.{arith}
use native.Mathlib.Decide.{ℕ_discrete}
use lib.ListN.{length, set, replicate, length-set, length-replicate}
use lib.Seq.{get_or-set_same, get_or-set_other}
use lib.Dec.{eqb, ltb}
use borrow.Author.Tests.{eqb-true, eqb-false, eq-eqb, ltb-true, ltb-false}
use Rattle.sheet.specs.Bytes.{pick, lowest}
use Rattle.sheet.proofs.Checks.Lowest.{lowest_bound, lowest_below, lowest_found}
use Rattle.allowance.specs.Dealing.{of_bench, Standing, standing, granted, visits_left, still_short, deal_to, deal_from}
use Rattle.allowance.specs.Dealing.{one_round, is_over, rounds, round_after_round, before_dealing}
use Rattle.allowance.proofs.Lists.ForBenches.{replicate_at}

-- no bench loses by a visit to one
more_at : (g : List ℕ) (i j : ℕ) → of_bench g j ≤ of_bench (set g i (of_bench g i + 1)) j
more_at [] zero j = omega arith
more_at [] (suc i) j = omega arith
more_at (n ∷ g) zero zero = omega arith
more_at (n ∷ g) zero (suc j) = omega arith
more_at (n ∷ g) (suc i) zero = omega arith
more_at (n ∷ g) (suc i) (suc j) = more_at g i j

module _ (needs : List ℕ) where
  -- ---- one visit

  pub deal_cases : (Q : Standing → Type 0) (i : ℕ) (g : List ℕ) (v : ℕ)
      → (0 < v → of_bench g i < of_bench needs i → Q (standing (set g i (of_bench g i + 1)) (v - 1)))
      → ((v ≡ 0) ⊎ (of_bench needs i ≤ of_bench g i) → Q (standing g v)) → Q (deal_to needs i (standing g v))
  deal_cases Q i g v given kept = go (ltb 0 v) (still_short needs g i) refl refl
    where
      go : (a b : Bool) → ltb 0 v ≡ a → still_short needs g i ≡ b → Q (pick (a && b) (standing (set g i (of_bench g i + 1)) (v - 1)) (standing g v))
      go true true p q = given (ltb-true 0 v p) (ltb-true (of_bench g i) (of_bench needs i) q)
      go true false p q = kept (inr (ltb-false (of_bench g i) (of_bench needs i) q))
      go false b p q = kept (inl (let h : v ≤ 0 = ltb-false 0 v p in omega arith))

  -- what each visit keeps, a round keeps, and so do all rounds
  pub round_keeps : (Q : Standing → Type 0) (k : ℕ) → ((i : ℕ) → i < k → (d : Standing) → Q d → Q (deal_to needs i d))
      → (count i : ℕ) → i + count ≤ k → (d : Standing) → Q d → Q (deal_from needs count i d)
  unfolding deal_from
  round_keeps Q k one zero i h d q = q
  round_keeps Q k one (suc count) i h d q = round_keeps Q k one count (i + 1) (omega arith) (deal_to needs i d) (one i (omega arith) d q)

  pub rounds_keep : (Q : Standing → Type 0) → ((i : ℕ) → i < length needs → (d : Standing) → Q d → Q (deal_to needs i d))
      → (f : ℕ) (d : Standing) → Q d → Q (rounds needs f d)
  unfolding rounds
  rounds_keep Q one zero d q = q
  rounds_keep Q one (suc f) d q =
      go (is_over needs d) (rounds_keep Q one f (one_round needs d) (round_keeps Q (length needs) one (length needs) 0 (omega arith) d q))
    where
      go : (b : Bool) → Q (rounds needs f (one_round needs d)) → Q (pick b d (rounds needs f (one_round needs d)))
      go true r = q
      go false r = r

  -- a bench keeps what it has
  visit_leaves : (j n i : ℕ) (d : Standing) → n ≤ of_bench (granted d) j → n ≤ of_bench (granted (deal_to needs i d)) j
  visit_leaves j n i (standing g v) q = deal_cases (λ d. n ≤ of_bench (granted d) j) i g v (λ x y. omega (arith, more_at g i j)) (λ x. q)

  pub round_leaves : (j n count i : ℕ) (d : Standing) → n ≤ of_bench (granted d) j → n ≤ of_bench (granted (deal_from needs count i d)) j
  round_leaves j n count i d q =
      round_keeps (λ e. n ≤ of_bench (granted e) j) (i + count) (λ m l e. visit_leaves j n m e) count i (omega arith) d q

  pub rounds_leave : (j n f : ℕ) (d : Standing) → n ≤ of_bench (granted d) j → n ≤ of_bench (granted (rounds needs f d)) j
  rounds_leave j n f d q = rounds_keep (λ e. n ≤ of_bench (granted e) j) (λ m l e. visit_leaves j n m e) f d q

  -- no visit is added
  pub round_left : (count i : ℕ) (d : Standing) (b : ℕ) → visits_left d ≤ b → visits_left (deal_from needs count i d) ≤ b
  round_left count i d b h = round_keeps (λ e. visits_left e ≤ b) (i + count) (λ j l e q. one j e q) count i (omega arith) d h
    where
      one : (j : ℕ) (e : Standing) → visits_left e ≤ b → visits_left (deal_to needs j e) ≤ b
      one j (standing g v) q = deal_cases (λ e. visits_left e ≤ b) j g v (λ x y. omega arith) (λ x. q)

  pub round_length : (count i : ℕ) (g : List ℕ) (v : ℕ) → length (granted (deal_from needs count i (standing g v))) ≡ length g
  round_length count i g v =
      round_keeps (λ d. length (granted d) ≡ length g) (i + count) (λ j l d q. one j d q) count i (omega arith) (standing g v) refl
    where
      one : (j : ℕ) (d : Standing) → length (granted d) ≡ length g → length (granted (deal_to needs j d)) ≡ length g
      one j (standing h u) q = deal_cases (λ d. length (granted d) ≡ length g) j h u (λ x y. length-set h j (of_bench h j + 1) ∙ q) (λ x. q)

  -- ---- over, or going on

  pub over_cases : (g : List ℕ) (v : ℕ) → is_over needs (standing g v) ≡ true
      → (v ≡ 0) ⊎ ((j : ℕ) → j < length needs → of_bench needs j ≤ of_bench g j)
  over_cases g v h = go (eqb v 0) refl h
    where
      found : ℕ
      found = lowest (still_short needs g) (length needs)

      go : (b : Bool) → eqb v 0 ≡ b → (b || eqb found (length needs)) ≡ true
          → (v ≡ 0) ⊎ ((j : ℕ) → j < length needs → of_bench needs j ≤ of_bench g j)
      go true e q = inl (eqb-true v 0 e)
      go false e q =
          inr (λ j l. ltb-false (of_bench g j) (of_bench needs j)
          (lowest_below (still_short needs g) (length needs) j (rw (eqb-true found (length needs) q) l)))

  -- a visit is left, and there is a first bench that is short
  pub record GoesOn (g : List ℕ) (v : ℕ) : Type 0 where
    pub some : 0 < v
    pub first : ℕ
    pub within : first < length needs
    pub short : of_bench g first < of_bench needs first
    pub earlier : (j : ℕ) → j < first → of_bench needs j ≤ of_bench g j

  pub going_on : (g : List ℕ) (v : ℕ) → is_over needs (standing g v) ≡ false → GoesOn g v
  going_on g v h = go (eqb v 0) (eqb found (length needs)) refl refl h
    where
      found : ℕ
      found = lowest (still_short needs g) (length needs)

      go : (a b : Bool) → eqb v 0 ≡ a → eqb found (length needs) ≡ b → (a || b) ≡ false → GoesOn g v
      go true b p q h = absurd (true≢false h)
      go false true p q h = absurd (true≢false h)
      go false false p q h =
          let some : v ≡ 0 → ⊥ = eqb-false v 0 p in
          let apart : found ≡ length needs → ⊥ = eqb-false found (length needs) q in
          let less : found < length needs = omega (arith, lowest_bound (still_short needs g) (length needs)) in
          record {
            some = omega arith;
            first = found;
            within = less;
            short = ltb-true (of_bench g found) (of_bench needs found) (lowest_found (still_short needs g) (length needs) less);
            earlier = λ j l. ltb-false (of_bench g j) (of_bench needs j) (lowest_below (still_short needs g) (length needs) j l);
          }

  -- a round with a visit left and a bench short spends something
  round_spends : (count i : ℕ) (g : List ℕ) (v j : ℕ) → i ≤ j → j < i + count → 0 < v → of_bench g j < of_bench needs j
      → visits_left (deal_from needs count i (standing g v)) < v
  unfolding deal_from
  round_spends zero i g v j h l p q = absurd (omega arith)
  round_spends (suc count) i g v j h l p q =
      deal_cases (λ d. visits_left (deal_from needs count (i + 1) d) < v) i g v
      (λ x y. omega (arith, round_left count (i + 1) (standing (set g i (of_bench g i + 1)) (v - 1)) (v - 1) (omega arith)))
      (λ x. later x (round_spends count (i + 1) g v j))
    where
      later : (v ≡ 0) ⊎ (of_bench needs i ≤ of_bench g i)
          → (i + 1 ≤ j → j < i + 1 + count → 0 < v → of_bench g j < of_bench needs j
          → visits_left (deal_from needs count (i + 1) (standing g v)) < v)
          → visits_left (deal_from needs count (i + 1) (standing g v)) < v
      later (inl z) rest = absurd (omega arith)
      later (inr n) rest =
          elim (ℕ_discrete i j) [
            | yes e ↦ absurd
                (let same : of_bench g i ≡ of_bench g j = ap (of_bench g) e in
                let asked : of_bench needs i ≡ of_bench needs j = ap (of_bench needs) e in
                omega arith)
            | no e ↦ rest (omega arith) (omega arith) p q
          ]

  pub round_less : (g : List ℕ) (v : ℕ) → is_over needs (standing g v) ≡ false → visits_left (one_round needs (standing g v)) < v
  round_less g v h =
      let w : GoesOn g v = going_on g v h in
      round_spends (length needs) 0 g v w.first (omega arith) (omega (arith, w.within)) w.some w.short

  -- ---- rounds end, and those allowed beyond the end change nothing

  rounds_over : (f : ℕ) (d : Standing) → visits_left d ≤ f → is_over needs (rounds needs f d) ≡ true
  unfolding rounds
  rounds_over zero (standing g v) h = let z : v ≡ 0 = omega arith in rw (eq-eqb v 0 z)
  rounds_over (suc f) (standing g v) h = go (is_over needs (standing g v)) refl (rounds_over f next)
    where
      next : Standing
      next = one_round needs (standing g v)

      go : (b : Bool) → is_over needs (standing g v) ≡ b → (visits_left next ≤ f → is_over needs (rounds needs f next) ≡ true)
          → is_over needs (pick b (standing g v) (rounds needs f next)) ≡ true
      go true e rest = e
      go false e rest = rest (omega (arith, round_less g v e))

  pub rounds_still : (f : ℕ) (d : Standing) → is_over needs d ≡ true → rounds needs f d ≡ d
  unfolding rounds
  rounds_still zero d e = refl
  rounds_still (suc f) d e = rw e

  pub spent_over : (d : Standing) → visits_left d ≡ 0 → is_over needs d ≡ true
  spent_over (standing g v) z = rw (eq-eqb v 0 z)

  rounds_fuel : (f h : ℕ) (d : Standing) → visits_left d ≤ f → visits_left d ≤ h → rounds needs f d ≡ rounds needs h d
  unfolding rounds
  rounds_fuel zero h (standing g v) p q = let z : v ≡ 0 = omega arith in sym (rounds_still h (standing g v) (spent_over (standing g v) z))
  rounds_fuel (suc f) zero (standing g v) p q = let z : v ≡ 0 = omega arith in rounds_still (suc f) (standing g v) (spent_over (standing g v) z)
  rounds_fuel (suc f) (suc h) (standing g v) p q = go (is_over needs (standing g v)) refl (rounds_fuel f h next)
    where
      next : Standing
      next = one_round needs (standing g v)

      go : (b : Bool) → is_over needs (standing g v) ≡ b
          → (visits_left next ≤ f → visits_left next ≤ h → rounds needs f next ≡ rounds needs h next)
          → pick b (standing g v) (rounds needs f next) ≡ pick b (standing g v) (rounds needs h next)
      go true e rest = refl
      go false e rest = rest (omega (arith, round_less g v e)) (omega (arith, round_less g v e))

  pub after_round : (d : Standing) → is_over needs d ≡ false → round_after_round needs d ≡ round_after_round needs (one_round needs d)
  unfolding rounds
  after_round (standing g zero) e = absurd (true≢false (sym (spent_over (standing g zero) refl) ∙ e))
  after_round (standing g (suc v)) e =
      let less : visits_left (one_round needs (standing g (suc v))) < suc v = round_less g (suc v) e in
      rw e (rounds_fuel v (visits_left (one_round needs (standing g (suc v)))) (one_round needs (standing g (suc v))) (omega arith) (omega arith))

  pub next_round : (d : Standing) → round_after_round needs d ≡ pick (is_over needs d) d (round_after_round needs (one_round needs d))
  next_round d = go (is_over needs d) refl
    where
      go : (b : Bool) → is_over needs d ≡ b → round_after_round needs d ≡ pick b d (round_after_round needs (one_round needs d))
      go true e = rounds_still (visits_left d) d e
      go false e = after_round d e

  pub it_ends : (d : Standing) → is_over needs (round_after_round needs d) ≡ true
  it_ends d = rounds_over (visits_left d) d (omega arith)

  -- ---- whole rounds

  -- benches before i have had round r + 1, the others round r
  pub record Level (r i : ℕ) (g : List ℕ) : Type 0 where
    pub room : length g ≡ length needs
    pub had : (j : ℕ) → j < i → of_bench g j ≡ min (of_bench needs j) (r + 1)
    pub waits : (j : ℕ) → i ≤ j → j < length needs → of_bench g j ≡ min (of_bench needs j) r

  -- a visit is there for every bench, or one is left after them
  abbrev Enough : ℕ → ℕ → Standing → Type 0
  Enough count i d = (count ≤ visits_left d) ⊎ (0 < visits_left (deal_from needs count i d))

  enough_some : (count i : ℕ) (g : List ℕ) (v : ℕ) → Enough (suc count) i (standing g v) → v ≡ 0 → ⊥
  enough_some count i g v (inl e) z = omega arith
  enough_some count i g v (inr e) z = omega (arith, round_left (suc count) i (standing g v) 0 (omega arith))

  enough_later : (count i : ℕ) (g : List ℕ) (v : ℕ) → Enough (suc count) i (standing g v) → Enough count (i + 1) (deal_to needs i (standing g v))
  unfolding deal_from
  enough_later count i g v (inl e) = inl (deal_cases (λ d. count ≤ visits_left d) i g v (λ p q. omega arith) (λ x. omega arith))
  enough_later count i g v (inr e) = inr e

  whole_from : (r count i : ℕ) (g : List ℕ) (v : ℕ) → i + count ≡ length needs → Enough count i (standing g v) → Level r i g
      → Level r (length needs) (granted (deal_from needs count i (standing g v)))
  unfolding deal_from
  whole_from r zero i g v h l w = subst (λ (n : ℕ). Level r n g) (let e : i ≡ length needs = omega arith in e) w
  whole_from r (suc count) i g v h l w =
      deal_cases (λ d. Enough count (i + 1) d → Level r (length needs) (granted (deal_from needs count (i + 1) d))) i g v
      (λ p q e. whole_from r count (i + 1) (set g i (of_bench g i + 1)) (v - 1) (omega arith) e (given q))
      (λ x e. whole_from r count (i + 1) g v (omega arith) e (kept x))
      (enough_later count i g v l)
    where
      here : of_bench g i ≡ min (of_bench needs i) r
      here = w.waits i (omega arith) (omega arith)

      given : of_bench g i < of_bench needs i → Level r (i + 1) (set g i (of_bench g i + 1))
      given q = record {
        room = length-set g i (of_bench g i + 1) ∙ w.room;
        had = λ j m. elim (ℕ_discrete j i) [
          | yes e ↦ subst (λ (n : ℕ). of_bench (set g i (of_bench g i + 1)) n ≡ min (of_bench needs n) (r + 1)) (sym e)
              (omega (arith, get_or-set_same g i (of_bench g i + 1) 0 (omega (arith, w.room)), here))
          | no e ↦ get_or-set_other g i j (of_bench g i + 1) 0 e ∙ w.had j (omega arith)
        ];
        waits = λ j m n. get_or-set_other g i j (of_bench g i + 1) 0 (λ e. omega arith) ∙ w.waits j (omega arith) n;
      }

      kept : (v ≡ 0) ⊎ (of_bench needs i ≤ of_bench g i) → Level r (i + 1) g
      kept (inl z) = absurd (enough_some count i g v l z)
      kept (inr n) = record {
        room = w.room;
        had = λ j m. elim (ℕ_discrete j i) [
          | yes e ↦ subst (λ (n : ℕ). of_bench g n ≡ min (of_bench needs n) (r + 1)) (sym e) (omega (arith, here))
          | no e ↦ w.had j (omega arith)
        ];
        waits = λ j m n. w.waits j (omega arith) n;
      }

  -- seen from the start of the next round
  pub whole_round : (r : ℕ) (g : List ℕ) (v : ℕ) → (length needs ≤ v) ⊎ (0 < visits_left (one_round needs (standing g v))) → Level r 0 g
      → Level (r + 1) 0 (granted (one_round needs (standing g v)))
  whole_round r g v e w =
      let u : Level r (length needs) (granted (one_round needs (standing g v))) = whole_from r (length needs) 0 g v (omega arith) e w in
      record { room = u.room; had = λ j l. absurd (omega arith); waits = λ j l m. u.had j m }

  pub level_zero : Level 0 0 (replicate (length needs) 0)
  level_zero = record {
    room = length-replicate (length needs) 0;
    had = λ j l. absurd (omega arith);
    waits = λ j l m. omega (arith, replicate_at {A = ℕ} (length needs) j 0);
  }

  -- ---- no more rounds than the largest grant

  -- the first bench that is short gets a visit
  first_served : (count i : ℕ) (g : List ℕ) (v j : ℕ) → i ≤ j → j < i + count → j < length g → 0 < v
      → ((n : ℕ) → n < j → of_bench needs n ≤ of_bench g n) → of_bench g j < of_bench needs j
      → of_bench g j + 1 ≤ of_bench (granted (deal_from needs count i (standing g v))) j
  unfolding deal_from
  first_served zero i g v j h l r p n q = absurd (omega arith)
  first_served (suc count) i g v j h l r p n q =
      deal_cases (λ d. of_bench g j + 1 ≤ of_bench (granted (deal_from needs count (i + 1) d)) j) i g v
      (λ x y. round_leaves j (of_bench g j + 1) count (i + 1) (standing (set g i (of_bench g i + 1)) (v - 1)) (here y))
      (λ x. later x (λ a b. first_served count (i + 1) g v j a b r p n q))
    where
      here : of_bench g i < of_bench needs i → of_bench g j + 1 ≤ of_bench (set g i (of_bench g i + 1)) j
      here y =
          elim (ℕ_discrete j i) [
            | yes e ↦ subst (λ (m : ℕ). of_bench g m + 1 ≤ of_bench (set g i (of_bench g i + 1)) m) (sym e)
                (omega (arith, get_or-set_same g i (of_bench g i + 1) 0 (let s : j ≡ i = e in omega arith)))
            | no e ↦ absurd (omega (arith, n i (omega arith)))
          ]

      later : (v ≡ 0) ⊎ (of_bench needs i ≤ of_bench g i)
          → (i + 1 ≤ j → j < i + 1 + count → of_bench g j + 1 ≤ of_bench (granted (deal_from needs count (i + 1) (standing g v))) j)
          → of_bench g j + 1 ≤ of_bench (granted (deal_from needs count (i + 1) (standing g v))) j
      later (inl z) rest = absurd (omega arith)
      later (inr m) rest =
          elim (ℕ_discrete i j) [
            | yes e ↦ absurd
                (let same : of_bench g i ≡ of_bench g j = ap (of_bench g) e in
                let asked : of_bench needs i ≡ of_bench needs j = ap (of_bench needs) e in
                omega arith)
            | no e ↦ rest (omega arith) (omega arith)
          ]

  abbrev pub AtMost : Standing → ℕ → Type 0
  AtMost d most = (j : ℕ) → j < length needs → of_bench (granted d) j ≤ most

  first_grows : (g : List ℕ) (v : ℕ) → length g ≡ length needs → is_over needs (standing g v) ≡ false → (s : GoesOn g v)
      → of_bench g s.first + 1 ≤ of_bench (granted (round_after_round needs (standing g v))) s.first
  first_grows g v l e s =
      subst (λ (d : Standing). of_bench g s.first + 1 ≤ of_bench (granted d) s.first) (sym (after_round (standing g v) e))
      (rounds_leave s.first (of_bench g s.first + 1) (visits_left (one_round needs (standing g v))) (one_round needs (standing g v))
      (first_served (length needs) 0 g v s.first (omega arith) (omega (arith, s.within)) (omega (arith, s.within))
      s.some s.earlier s.short))

  -- after r whole rounds, where no grant comes to more, dealing is over
  none_beyond : (r : ℕ) (g : List ℕ) (v : ℕ) → Level r 0 g → AtMost (round_after_round needs (standing g v)) r
      → is_over needs (standing g v) ≡ true
  none_beyond r g v w most = go (is_over needs (standing g v)) refl
    where
      go : (b : Bool) → is_over needs (standing g v) ≡ b → b ≡ true
      go true e = refl
      go false e =
          let s : GoesOn g v = going_on g v e in
          absurd
          (omega
          (arith, first_grows g v w.room e s, most s.first s.within, w.waits s.first (omega arith) s.within, s.short))

  few_from : (most r : ℕ) (d : Standing) → Level r 0 (granted d) → AtMost (round_after_round needs d) (r + most)
      → round_after_round needs d ≡ rounds needs most d
  unfolding rounds
  few_from zero r (standing g v) w most = rounds_still v (standing g v) (none_beyond r g v w (λ j l. omega (arith, most j l)))
  few_from (suc f) r (standing g v) w most = go (is_over needs (standing g v)) refl (few_from f (r + 1) next)
    where
      next : Standing
      next = one_round needs (standing g v)

      last : visits_left next ≡ 0 → round_after_round needs next ≡ rounds needs f next
      last z = rounds_still (visits_left next) next (spent_over next z) ∙ sym (rounds_still f next (spent_over next z))

      go : (b : Bool) → is_over needs (standing g v) ≡ b
          → (Level (r + 1) 0 (granted next) → AtMost (round_after_round needs next) (r + 1 + f)
          → round_after_round needs next ≡ rounds needs f next)
          → round_after_round needs (standing g v) ≡ pick b (standing g v) (rounds needs f next)
      go true e rest = rounds_still v (standing g v) e
      go false e rest =
          after_round (standing g v) e
          ∙ elim (ℕ_discrete (visits_left next) 0) [
            | yes z ↦ last z
            | no z ↦ rest (whole_round r g v (inr (omega arith)) w)
                (λ j l. subst (λ (d : Standing). of_bench (granted d) j ≤ r + 1 + f) (after_round (standing g v) e) (omega (arith, most j l)))
          ]

  pub few_rounds : (visits most : ℕ) → AtMost (round_after_round needs (before_dealing needs visits)) most
      → round_after_round needs (before_dealing needs visits) ≡ rounds needs most (before_dealing needs visits)
  few_rounds visits most h = few_from most 0 (before_dealing needs visits) level_zero (λ j l. omega (arith, h j l))
