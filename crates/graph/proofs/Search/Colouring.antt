-- The colours of states: which they are, the number of states not seen, and a colour stored.
use Prim.Native.Nat.{ℕ, zero, suc, ◌<◌, ◌≤◌}
use mathlib.Core.Bool.{true, false, true≢false}
use mathlib.Core.List.{List, [], ◌∷◌}
use mathlib.Core.Logic.{◌⊎◌, inl, inr, ◌≢◌}
use mathlib.Core.Path.{◌≡◌, refl, sym, ap, subst, ◌∙◌}
use native.Mathlib.Omega.{arith}
use native.Mathlib.Decide.{ℕ_discrete}
use native.Mathlib.Nat.{le_of_suc-le-suc, not-suc-le-zero}
use lib.ListN.{length, get_or, set, replicate, length-map, get_or-map}
use lib.Seq.{get_or-set_same, get_or-set_other}
use Rattle.std.specs.Prelude.{map}
use Rattle.std.proofs.lemmas.List.{map-set}
use Rattle.graph.specs.declared.Index.{Index}
use Rattle.graph.specs.declared.searching.Colour.{Colour}
use Rattle.graph.specs.declared.searching.Colour.TheVariants.{Unseen, Open, Done}
use Rattle.graph.specs.Search.{colour_is_done}
use Rattle.graph.specs.Internal.Searching.{unseen, colour_number, unseen_states, DoneState, Coloured}
use Rattle.graph.proofs.Search.Retaining.{retains_self, done_on}

-- ---- which colour

pub shown_done : (c : Colour) → c ≢ Done → colour_is_done c ≡ false
shown_done Unseen n = refl
shown_done Open n = refl
shown_done Done n = absurd (n refl)

pub told_done : (c : Colour) → colour_is_done c ≡ true → c ≡ Done
told_done Unseen e = absurd (true≢false (sym e))
told_done Open e = absurd (true≢false (sym e))
told_done Done e = refl

pub told_not_done : (c : Colour) → colour_is_done c ≡ false → c ≢ Done
told_not_done c e q = true≢false (sym (ap colour_is_done q) ∙ e)

pub left_unseen : (c : Colour) → c ≢ Done → c ≢ Open → c ≡ Unseen
left_unseen Unseen d o = refl
left_unseen Open d o = absurd (o refl)
left_unseen Done d o = absurd (d refl)

-- the number of a colour tells which it is
abbrev colour_numbered : ℕ → Colour
colour_numbered zero = Unseen
colour_numbered (suc zero) = Open
colour_numbered (suc (suc n)) = Done

numbered_back : (c : Colour) → colour_numbered (colour_number c) ≡ c
numbered_back Unseen = refl
numbered_back Open = refl
numbered_back Done = refl

pub colour_discrete : (a b : Colour) → Dec (a ≡ b)
colour_discrete a b =
    elim (ℕ_discrete (colour_number a) (colour_number b)) [
      | yes e ↦ yes (sym (numbered_back a) ∙ (ap colour_numbered e ∙ numbered_back b))
      | no n ↦ no (λ e. n (ap colour_number e))
    ]

pub open_seen : Open ≢ Unseen
open_seen e = omega (arith, ap colour_number e)

pub done_seen : Done ≢ Unseen
done_seen e = omega (arith, ap colour_number e)

-- ---- no state is seen

pub colourless : (n u : ℕ) → ◌≡◌ {A = ℕ} (get_or (replicate n 0) u 0) 0
colourless zero u = refl
colourless (suc n) zero = refl
colourless (suc n) (suc u) = colourless n u

pub none_coloured : (n u : ℕ) → get_or (replicate n Unseen) u Unseen ≡ Unseen
none_coloured zero u = refl
none_coloured (suc n) zero = refl
none_coloured (suc n) (suc u) = none_coloured n u

pub all_unseen : (n : ℕ) → unseen_states (replicate n Unseen) ≡ n
unfolding unseen_states unseen
all_unseen zero = refl
all_unseen (suc n) = ap suc (all_unseen n)

pub unseen_most : (l : List Colour) → unseen_states l ≤ length l
unfolding unseen_states unseen
unseen_most [] = omega arith
unseen_most (Unseen ∷ l) = omega (arith, unseen_most l)
unseen_most (Open ∷ l) = omega (arith, unseen_most l)
unseen_most (Done ∷ l) = omega (arith, unseen_most l)

-- ---- a colour stored

-- a number stored where 0 was leaves one 0 fewer
pub unseen_one : (l : List ℕ) (i k : ℕ) → i < length l → get_or l i 0 ≡ 0 → suc (unseen (set l i (suc k))) ≡ unseen l
unfolding unseen
unseen_one [] i k h e = absurd (not-suc-le-zero h)
unseen_one (zero ∷ l) zero k h e = refl
unseen_one (suc x ∷ l) zero k h e = absurd (omega arith)
unseen_one (zero ∷ l) (suc i) k h e = ap suc (unseen_one l i k (le_of_suc-le-suc h) e)
unseen_one (suc x ∷ l) (suc i) k h e = unseen_one l i k (le_of_suc-le-suc h) e

numbered_falls : (l : List ℕ) (i k : ℕ) → unseen (set l i (suc k)) ≤ unseen l
unfolding unseen
numbered_falls [] i k = omega arith
numbered_falls (zero ∷ l) zero k = omega arith
numbered_falls (suc x ∷ l) zero k = omega arith
numbered_falls (zero ∷ l) (suc i) k = omega (arith, numbered_falls l i k)
numbered_falls (suc x ∷ l) (suc i) k = numbered_falls l i k

pub unseen_set : (l : List Colour) (i : ℕ) (c : Colour) → c ≢ Unseen → unseen_states (set l i c) ≤ unseen_states l
unfolding unseen_states
unseen_set l i Unseen n = absurd (n refl)
unseen_set l i Open n = rw (map-set colour_number l i Open) (numbered_falls (map colour_number l) i 0)
unseen_set l i Done n = rw (map-set colour_number l i Done) (numbered_falls (map colour_number l) i 1)

-- a state that was not seen is opened
pub unseen_falls : (l : List Colour) (i : ℕ) → i < length l → get_or l i Unseen ≡ Unseen → unseen_states (set l i Open) < unseen_states l
unfolding unseen_states
unseen_falls l i h e =
    omega (
      arith,
      ap unseen (map-set colour_number l i Open),
      unseen_one (map colour_number l) i 0 (omega (arith, length-map l colour_number)) (get_or-map colour_number l i Unseen ∙ ap colour_number e),
    )

pub stored : (l : List Colour) (s : ℕ) (c : Colour) (u : ℕ) → get_or (set l s c) u Unseen ≢ get_or l u Unseen → u ≡ s
stored l s c u n =
    elim (ℕ_discrete u s) [
      | yes q ↦ q
      | no q ↦ absurd (n (get_or-set_other l s u c Unseen q))
    ]

module _ (l : List Colour) (s : ℕ) (c : Colour) (h : s < length l) where
  -- what has a colour after the store is s, or another state that had it before
  pub recoloured : (u : ℕ) (k : Colour) → get_or (set l s c) u Unseen ≡ k → ((u ≡ s) × (k ≡ c)) ⊎ ((u ≢ s) × (get_or l u Unseen ≡ k))
  recoloured u k e =
      elim (ℕ_discrete u s) [
        | yes q ↦ inl (q, sym e ∙ (ap (λ (v : ℕ). get_or (set l s c) v Unseen) q ∙ get_or-set_same l s c Unseen h))
        | no q ↦ inr (q, sym (get_or-set_other l s u c Unseen q) ∙ e)
      ]

  pub coloured_set : {p : List ℕ} {index : Index} → Coloured p index l → ((v : ℕ) → get_or l v Unseen ≡ Done → get_or (set l s c) v Unseen ≡ Done)
      → (c ≡ Done → DoneState p index (set l s c) s) → Coloured p index (set l s c)
  coloured_set {p} {index} old keeps new = record { done = λ u m. go u m (recoloured u (get_or (set l s c) u Unseen) refl) }
    where
      go : (u : ℕ) → get_or (set l s c) u Unseen ≡ Done → ((u ≡ s) × (get_or (set l s c) u Unseen ≡ c)) ⊎ ((u ≢ s) × (get_or l u Unseen ≡ get_or (set l s c) u Unseen))
          → DoneState p index (set l s c) u
      go u m (inl q) = subst (DoneState p index (set l s c)) (sym q.0) (new (sym q.1 ∙ m))
      go u m (inr q) = done_on retains_self keeps (old.done u (q.1 ∙ m))

  -- a state that is not seen is opened
  pub opened_keeps : get_or l s Unseen ≡ Unseen → (v : ℕ) → get_or l v Unseen ≡ Done → get_or (set l s c) v Unseen ≡ Done
  opened_keeps e v m =
      elim (ℕ_discrete v s) [
        | yes q ↦ absurd (omega (arith, ap colour_number (sym m ∙ (ap (λ (x : ℕ). get_or l x Unseen) q ∙ e))))
        | no q ↦ get_or-set_other l s v c Unseen q ∙ m
      ]

  -- a state is done
  pub closed_keeps : c ≡ Done → (v : ℕ) → get_or l v Unseen ≡ Done → get_or (set l s c) v Unseen ≡ Done
  closed_keeps big v m =
      elim (ℕ_discrete v s) [
        | yes q ↦ ap (λ (x : ℕ). get_or (set l s c) x Unseen) q ∙ (get_or-set_same l s c Unseen h ∙ big)
        | no q ↦ get_or-set_other l s v c Unseen q ∙ m
      ]
