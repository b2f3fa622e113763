-- After as many rounds as there are states, a state is settled exactly when no loop can be reached from it.
use mathlib.Core.Bool.{Bool, true, false, ◌&&◌, ◌||◌, true≢false}
use mathlib.Core.List.Memᴰ
use mathlib.Core.List.{List, [], ◌∷◌, Memᴰ}
use mathlib.Core.Logic.{◌⊎◌, inl, inr, ◌↔◌}
use mathlib.Core.Path.{◌≡◌, refl, sym, ap, subst, ◌∙◌}
use Prim.Native.Nat.{ℕ, zero, suc, ◌+◌, ◌≤◌, ◌<◌}
use native.Mathlib.Omega.{arith}
use lib.Dec.{eqb}
use borrow.Author.Tests.{eqb-true}
use Rattle.rows.specs.Tables.{count}
use Rattle.graph.specs.Loops.{Way, last, first, Reachable, Loop, LoopReachable}
use Rattle.graph.specs.LoopTest.{all_pass, settled}
use Rattle.rows.proofs.Tables.Counting.{one_if, count_le, count_one, count_sum}

pub all_member : (p : ℕ → Bool) (l : List ℕ) (t : ℕ) → all_pass p l ≡ true → Memᴰ t l → p t ≡ true
unfolding all_pass
all_member p [] t h m = absurd (Memᴰ.not-nil m)
all_member p (x ∷ l) t h m = go (p x) refl h (Memᴰ.cases_cons m) (λ q. all_member p l t q)
  where
    go : (b : Bool) → p x ≡ b → (b && all_pass p l) ≡ true → (t ≡ x) ⊎ Memᴰ t l → (all_pass p l ≡ true → Memᴰ t l → p t ≡ true) → p t ≡ true
    go true e h (inl q) rest = ap p q ∙ e
    go true e h (inr n) rest = rest h n
    go false e h c rest = absurd (true≢false (sym h))

pub all_members : (p : ℕ → Bool) (l : List ℕ) → ((t : ℕ) → Memᴰ t l → p t ≡ true) → all_pass p l ≡ true
unfolding all_pass
all_members p [] h = refl
all_members p (x ∷ l) h = rw (h x (Memᴰ.head refl)) (all_members p l (λ t m. h t (Memᴰ.tail m)))

pub some_fails : (p : ℕ → Bool) (l : List ℕ) → all_pass p l ≡ false → (t : ℕ) × Memᴰ t l × (p t ≡ false)
unfolding all_pass
some_fails p [] h = absurd (true≢false h)
some_fails p (x ∷ l) h = go (p x) refl h (λ q. some_fails p l q)
  where
    go : (b : Bool) → p x ≡ b → (b && all_pass p l) ≡ false → (all_pass p l ≡ false → (t : ℕ) × Memᴰ t l × (p t ≡ false))
        → (t : ℕ) × Memᴰ t (x ∷ l) × (p t ≡ false)
    go true e h rest = let r : (t : ℕ) × Memᴰ t l × (p t ≡ false) = rest h in (r.0, Memᴰ.tail r.1, r.2)
    go false e h rest = (x, Memᴰ.head refl, e)

-- one step more
pub way_on : {C : Type 0} {next : C → List C} {s t u : C} → Way next s t → Memᴰ u (next t) → Way next s u
way_on (last m) n = first m (last n)
way_on (first m w) n = first m (way_on w n)

-- one step before
pub onward : {C : Type 0} {next : C → List C} {s t u : C} → Memᴰ t (next s) → Reachable next t u → Way next s u
onward {next = next} {s = s} m (inl e) = subst (λ (x : _). Way next s x) (sym e) (last m)
onward m (inr w) = first m w

-- one number more in a set
adding : (ℕ → Bool) → ℕ → ℕ → Bool
adding p s u = eqb s u || p u

count_adding : (n : ℕ) (p : ℕ → Bool) (s : ℕ) → s < n → p s ≡ false → count n (adding p s) ≡ suc (count n p)
unfolding adding
count_adding n p s h out = omega (arith, count_one n s h, count_sum n (eqb s) p (adding p s) (λ i l. go i (eqb s i) refl))
  where
    go : (i : ℕ) (b : Bool) → eqb s i ≡ b → one_if (eqb s i) + one_if (p i) ≡ one_if (eqb s i || p i)
    go i true e = rw (e, sym (ap p (eqb-true s i e)) ∙ out)
    go i false e = rw e (omega arith)

module _ (next : ℕ → List ℕ) where
  pub settled_next : (r s t : ℕ) → settled next (suc r) s ≡ true → Memᴰ t (next s) → settled next r t ≡ true
  unfolding settled
  settled_next r s t h m = all_member (λ t. settled next r t) (next s) t h m

  pub settled_zero : (s : ℕ) → settled next 0 s ≡ true → ⊥
  unfolding settled
  settled_zero s h = true≢false (sym h)

  -- a way leads from a settled state to one settled in an earlier round
  pub settled_way : (r : ℕ) {s t : ℕ} → settled next r s ≡ true → Way next s t → (q : ℕ) × (q < r) × (settled next q t ≡ true)
  settled_way zero {s} h w = absurd (settled_zero s h)
  settled_way (suc r) h (last {s = s} {t = t} m) = (r, omega arith, settled_next r s t h m)
  settled_way (suc r) h (first {s = s} {u = u} m w) =
      let e : (q : ℕ) × (q < r) × (settled next q _ ≡ true) = settled_way r (settled_next r s u h m) w in
      (e.0, omega (arith, e.1), e.2)

  pub settled_no_loop : (r s : ℕ) → settled next r s ≡ true → Loop next s → ⊥
  settled_no_loop r s h w = go (suc r) r (omega arith) h
    where
      go : (b r : ℕ) → r < b → settled next r s ≡ true → ⊥
      go zero r l h = omega arith
      go (suc b) r l h = let e : (q : ℕ) × (q < r) × (settled next q s ≡ true) = settled_way r h w in go b e.0 (omega (arith, e.1)) e.2

  -- a loop that can be reached from a successor can be reached
  reaches_back : (s t u : ℕ) → Memᴰ t (next s) → Reachable next t u → Loop next u → LoopReachable next s
  reaches_back s t u m r w = (u, inr (onward m r), w)

  pub settled_reaches_none : (r s : ℕ) → settled next r s ≡ true → LoopReachable next s → ⊥
  settled_reaches_none r s h l = go l.1
    where
      go : Reachable next s l.0 → ⊥
      go (inl e) = settled_no_loop r l.0 (subst (λ (t : ℕ). settled next r t ≡ true) (sym e) h) l.2
      go (inr w) = let q : (q : ℕ) × (q < r) × (settled next q l.0 ≡ true) = settled_way r h w in settled_no_loop q.0 l.0 q.2 l.2

  module _ (S : ℕ) (inside : (s : ℕ) → s < S → (t : ℕ) → Memᴰ t (next s) → t < S) where
    -- `passed` holds the states of the way so far
    abbrev Through : ℕ → Type 0
    Through r =
        (s : ℕ) (passed : ℕ → Bool) → ((u : ℕ) → passed u ≡ true → Way next u s) → S ≤ r + count S passed → s < S
        → settled next r s ≡ false → LoopReachable next s

    unsettled : (r : ℕ) → Through r
    unfolding settled adding
    unsettled zero s passed ways enough h e = go (passed s) refl
      where
        go : (b : Bool) → passed s ≡ b → LoopReachable next s
        go true p = (s, inl refl, ways s p)
        go false p = absurd (omega (arith, count_adding S passed s h p, count_le S (adding passed s)))
    unsettled (suc r) s passed ways enough h e = go (passed s) refl (unsettled r)
      where
        find : (t : ℕ) × Memᴰ t (next s) × (settled next r t ≡ false)
        find = some_fails (λ t. settled next r t) (next s) e

        ways_on : (u : ℕ) (b : Bool) → eqb s u ≡ b → (b || passed u) ≡ true → Way next u find.0
        ways_on u true q p = subst (λ (v : ℕ). Way next v find.0) (eqb-true s u q) (last find.1)
        ways_on u false q p = way_on (ways u p) find.1

        go : (b : Bool) → passed s ≡ b → Through r → LoopReachable next s
        go true p rest = (s, inl refl, ways s p)
        go false p rest =
            let more : S ≤ r + count S (adding passed s) = omega (arith, count_adding S passed s h p) in
            let l = rest find.0 (adding passed s) (λ u q. ways_on u (eqb s u) refl q) more (inside s h find.0 find.1) find.2 in
            reaches_back s find.0 l.0 find.1 l.1 l.2

    pub settled_or_loop : (s : ℕ) → s < S → settled next S s ≡ false → LoopReachable next s
    settled_or_loop s h e = unsettled S s (λ u. false) (λ u q. absurd (true≢false (sym q))) (omega arith) h e

    pub settled_exactly : (s : ℕ) → s < S → (settled next S s ≡ true) ↔ (LoopReachable next s → ⊥)
    settled_exactly s h = (settled_reaches_none S s, λ none. go (settled next S s) refl none)
      where
        go : (b : Bool) → settled next S s ≡ b → (LoopReachable next s → ⊥) → settled next S s ≡ true
        go true e none = e
        go false e none = absurd (none (settled_or_loop s h e))
