-- Lists of the states that pass a test; a way of n transitions leads to a state exactly when it can be reached; and after a layer without
-- states come none.
use Prim.Native.Nat.{ℕ, zero, suc, ◌+◌, ◌<◌, ◌≤◌}
use mathlib.Core.Path.{◌≡◌, refl, sym, ap, subst, ◌∙◌}
use mathlib.Core.Bool.{Bool, false, true≢false}
use mathlib.Core.List.{List, [], ◌∷◌, map, Memᴰ}
use mathlib.Core.Logic.{inl, inr, ◌↔◌}
use native.Mathlib.Omega.{arith}
use borrow.Author.Tests.{ne_eqb}
use Rattle.sheet.specs.Plan.{state_count}
use Rattle.sheet.specs.WellFormed.{WellFormedPlan}
use Rattle.rows.proofs.Tables.Among.{false_if}
use Rattle.graph.specs.Loops.{Way, last, first, Reachable}
use Rattle.graph.specs.Successors.{successors}
use Rattle.graph.proofs.Looptest.Settled.{way_on}
use Rattle.closest.specs.Steps.{WayOf, stay, onward, Steps, reached_at, within, at_steps, passing, layer, layers_from}
use Rattle.closest.proofs.Ways.Within.{at_steps_lem, steps_computed, way_below}

-- ---- the states that pass a test

pub passing_cong : (q q' : ℕ → Bool) (k s : ℕ) → ((t : ℕ) → s ≤ t → t < s + k → q t ≡ q' t) → passing q k s ≡ passing q' k s
unfolding passing
passing_cong q q' zero s same = refl
passing_cong q q' (suc k) s same = rw (same s (omega arith) (omega arith), passing_cong q q' k (suc s) (λ t l r. same t (omega arith) (omega arith)))

passing_empty : (q : ℕ → Bool) (k s : ℕ) → ((t : ℕ) → s ≤ t → t < s + k → q t ≡ false) → passing q k s ≡ []
unfolding passing
passing_empty q zero s fails = refl
passing_empty q (suc k) s fails = rw (fails s (omega arith) (omega arith)) (passing_empty q k (suc s) (λ t l r. fails t (omega arith) (omega arith)))

pub passing_more : (q : ℕ → Bool) (k m s : ℕ) → ((t : ℕ) → s + k ≤ t → q t ≡ false) → passing q (k + m) s ≡ passing q k s
unfolding passing
passing_more q zero m s fails = passing_empty q (0 + m) s (λ t l r. fails t (omega arith))
passing_more q (suc k) m s fails =
    let e : suc k + m ≡ suc (k + m) = omega arith in
    rw (e, passing_more q k m (suc s) (λ t l. fails t (omega arith))) refl

module _ (p : List ℕ) where
  -- ---- reachable

  -- a way of n transitions to s, then a way on to t
  way_along : {n s t : ℕ} → WayOf p n s → Way (successors p) s t → (m : ℕ) × WayOf p m t
  way_along {n} w (last m) = (suc n, onward w m)
  way_along w (first m v) = way_along (onward w m) v

  way_back : {n t : ℕ} → WayOf p n t → Reachable (successors p) 0 t
  way_back stay = inl refl
  way_back (onward {t = t} w m) = inr (go (way_back w) m)
    where
      go : {s : ℕ} → Reachable (successors p) 0 s → Memᴰ t (successors p s) → Way (successors p) 0 t
      go (inl e) m = last (subst (λ (k : ℕ). Memᴰ t (successors p k)) e m)
      go (inr v) m = way_on v m

  pub reachable_exactly : (t : ℕ) → ((n : ℕ) × WayOf p n t) ↔ Reachable (successors p) 0 t
  reachable_exactly t = (λ w. way_back w.1, λ r. go r)
    where
      go : Reachable (successors p) 0 t → (n : ℕ) × WayOf p n t
      go (inl e) = (0, subst (WayOf p 0) (sym e) stay)
      go (inr v) = way_along stay v

  -- ---- layers

  -- the state before the last of a shortest way has one step less
  before_last : (n t : ℕ) → Steps p t (suc n) → (s : ℕ) × Steps p s n
  before_last n t c = go c.way c.fewest
    where
      go : {k : ℕ} → WayOf p (suc k) t → ((m : ℕ) → WayOf p m t → suc k ≤ m) → (s : ℕ) × Steps p s k
      go (onward {s = u} w m) least = (u, record { way = w; fewest = λ j v. omega (arith, least (suc j) (onward v m)) })

  -- no state has n steps
  abbrev EmptyLayer : ℕ → Type 0
  EmptyLayer n = (t : ℕ) → t < state_count p → at_steps p n t ≡ false

  module _ (kept : WellFormedPlan p) where
    empty_next : (n : ℕ) → EmptyLayer n → EmptyLayer (suc n)
    empty_next n empty t l =
        false_if (at_steps p (suc n) t) (λ h.
        let b = before_last n t (at_steps_lem p (suc n) t h) in
        true≢false (sym (steps_computed p b.0 n b.1) ∙ empty b.0 (way_below p kept b.1.way)))

    -- so the search may stop there
    pub empty_later : (k n : ℕ) → EmptyLayer n → layers_from p k n ≡ []
    unfolding layers_from
    empty_later zero n empty = refl
    empty_later (suc k) n empty =
        rw (passing_empty (at_steps p n) (state_count p) 0 (λ t l r. empty t (omega arith)), empty_later k (suc n) (empty_next n empty)) refl

    pub layer_zero : layer p 0 ≡ reached_at 0 0 ∷ []
    unfolding passing at_steps within
    layer_zero = ap (map (reached_at 0)) (go (state_count p) kept.some_states)
      where
        go : (k : ℕ) → 1 ≤ k → passing (at_steps p 0) k 0 ≡ 0 ∷ []
        go zero l = absurd (omega arith)
        go (suc k) l = ap {B = List ℕ} (λ m. 0 ∷ m) (passing_empty (at_steps p 0) k 1 (λ t i r. ne_eqb t 0 (λ e. omega arith)))
