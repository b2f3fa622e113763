-- How many transitions are searched, and halving: its steps, and that it finds the first transition of a state in a well-formed plan.
use Prim.Native.Nat.{ℕ, zero, suc, ◌+◌, ◌*◌, ◌/◌, ◌<◌, ◌≤◌}
use mathlib.Core.Bool.{Bool, true, false}
use mathlib.Core.List.{List}
use mathlib.Core.Path.{◌≡◌, refl, sym, subst, ◌∙◌}
use native.Mathlib.Omega.{arith}
use native.Mathlib.Decide.{dec_lt}
use lib.ListN.{length}
use lib.Dec.{ltb}
use borrow.Author.Tests.{ltb-true, ltb-false, lt-ltb, le-ltb}
use Rattle.std.proofs.Math.Nat.{min-eq_left, min-eq_right}
use Rattle.std.specs.Prelude.{min}
use Rattle.sheet.specs.Bytes.{pick}
use Rattle.sheet.specs.Plan.{transition_count, origin}
use Rattle.sheet.specs.WellFormed.{WellFormedPlan}
use Rattle.graph.specs.Search.{whole_in, held, halved, first_by_halving}
use Rattle.graph.specs.Explored.{first_from}
use Rattle.graph.proofs.Search.Outgoing.{origin_order, first_parts_lem}

-- ---- how many transitions are searched

module _ (p : List ℕ) where
  -- what is searched is there
  pub held_inside : (i : ℕ) → i < held p → 6 + 3 * i < length p
  unfolding held
  held_inside i h = go (ltb (whole_in p) (transition_count p)) refl h
    where
      go : (b : Bool) → ltb (whole_in p) (transition_count p) ≡ b → i < pick b (whole_in p) (transition_count p) → 6 + 3 * i < length p
      go true e l = omega arith
      go false e l = omega (arith, ltb-false (whole_in p) (transition_count p) e)

  -- T, or as many as the bytes have
  pub held_least : min (whole_in p) (transition_count p) ≡ held p
  unfolding held
  held_least = go (ltb (whole_in p) (transition_count p)) refl
    where
      go : (b : Bool) → ltb (whole_in p) (transition_count p) ≡ b → min (whole_in p) (transition_count p) ≡ pick b (whole_in p) (transition_count p)
      go true e = min-eq_left (omega (arith, ltb-true (whole_in p) (transition_count p) e))
      go false e = min-eq_right (ltb-false (whole_in p) (transition_count p) e)

  -- all of a well-formed plan
  pub held_all : WellFormedPlan p → held p ≡ transition_count p
  held_all kept = sym held_least ∙ min-eq_right (omega (arith, kept.exact))

-- ---- the steps of halving

module _ (p : List ℕ) (s : ℕ) where
  halved_none : (f low high : ℕ) → high ≤ low → halved p s f low high ≡ low
  unfolding halved
  halved_none zero low high h = refl
  halved_none (suc f) low high h = rw (le-ltb low high h)

  module _ (f low high : ℕ) (h : low < high) where
    halved_up : origin p ((low + high) / 2) < s → halved p s (suc f) low high ≡ halved p s f ((low + high) / 2 + 1) high
    unfolding halved
    halved_up e = rw (lt-ltb low high h, lt-ltb (origin p ((low + high) / 2)) s e)

    halved_down : s ≤ origin p ((low + high) / 2) → halved p s (suc f) low high ≡ halved p s f low ((low + high) / 2)
    unfolding halved
    halved_down e = rw (lt-ltb low high h, le-ltb (origin p ((low + high) / 2)) s e)

  -- of a loop that halves: what is left finds the same
  pub record Halving (low high : ℕ) : Type 0 where
    pub ordered : low ≤ high
    pub most : high ≤ held p
    pub steps : ℕ
    pub enough : high ≤ low + steps
    pub left : first_by_halving p s ≡ halved p s steps low high

  pub halving_starts : (count : ℕ) → count ≡ held p → Halving 0 count
  unfolding first_by_halving
  halving_starts count e = subst (Halving 0) (sym e) whole
    where
      whole : Halving 0 (held p)
      whole = record { ordered = omega arith; most = omega arith; steps = held p; enough = omega arith; left = refl }

  module _ (low high : ℕ) (w : Halving low high) (h : low < high) where
    pub halving_up : origin p ((low + high) / 2) < s → Halving ((low + high) / 2 + 1) high
    halving_up e = go w.steps w.enough w.left
      where
        go : (f : ℕ) → high ≤ low + f → first_by_halving p s ≡ halved p s f low high → Halving ((low + high) / 2 + 1) high
        go zero m l = absurd (omega arith)
        go (suc f) m l = record {
          ordered = omega arith;
          most = w.most;
          steps = f;
          enough = omega arith;
          left = l ∙ halved_up f low high h e;
        }

    pub halving_down : s ≤ origin p ((low + high) / 2) → Halving low ((low + high) / 2)
    halving_down e = go w.steps w.enough w.left
      where
        go : (f : ℕ) → high ≤ low + f → first_by_halving p s ≡ halved p s f low high → Halving low ((low + high) / 2)
        go zero m l = absurd (omega arith)
        go (suc f) m l = record {
          ordered = omega arith;
          most = omega (arith, w.most);
          steps = f;
          enough = omega arith;
          left = l ∙ halved_down f low high h e;
        }

  pub halving_ends : (low high : ℕ) → Halving low high → high ≤ low → low ≡ first_by_halving p s
  halving_ends low high w h = sym (w.left ∙ halved_none w.steps low high h)

-- ---- halving in a well-formed plan

module _ (p : List ℕ) (kept : WellFormedPlan p) (s : ℕ) where
  -- none of the transitions below low is of s or of a later state, and each from high on is
  record Parted (low high : ℕ) : Type 0 where
    ordered : low ≤ high
    few : high ≤ transition_count p
    earlier : (i : ℕ) → i < low → origin p i < s
    later : (i : ℕ) → high ≤ i → i < transition_count p → s ≤ origin p i

  module _ (low high : ℕ) (w : Parted low high) (h : low < high) where
    parted_up : origin p ((low + high) / 2) < s → Parted ((low + high) / 2 + 1) high
    parted_up e = record {
      ordered = omega arith;
      few = w.few;
      earlier = λ i m. omega (arith, origin_order p kept i ((low + high) / 2) (omega arith) (omega (arith, w.few)));
      later = w.later;
    }

    parted_down : s ≤ origin p ((low + high) / 2) → Parted low ((low + high) / 2)
    parted_down e = record {
      ordered = omega arith;
      few = omega (arith, w.few);
      earlier = w.earlier;
      later = λ i m l. omega (arith, origin_order p kept ((low + high) / 2) i m l);
    }

  parted_first : (low high : ℕ) → Parted low high → high ≤ low → low ≡ first_from p s
  parted_first low high w h =
      first_parts_lem p kept s low (omega (arith, w.ordered, w.few)) w.earlier (λ i m l. w.later i (omega arith) l)

  halved_first : (f low high : ℕ) → Parted low high → high ≤ low + f → halved p s f low high ≡ first_from p s
  halved_first zero low high w m = halved_none p s zero low high (omega arith) ∙ parted_first low high w (omega arith)
  halved_first (suc f) low high w m = go (λ a b. halved_first f a b)
    where
      go : ((a b : ℕ) → Parted a b → b ≤ a + f → halved p s f a b ≡ first_from p s) → halved p s (suc f) low high ≡ first_from p s
      go ih =
          elim (dec_lt low high) [
            | no n ↦ halved_none p s (suc f) low high (omega arith) ∙ parted_first low high w (omega arith)
            | yes h ↦
                elim (dec_lt (origin p ((low + high) / 2)) s) [
                  | yes e ↦ halved_up p s f low high h e ∙ ih ((low + high) / 2 + 1) high (parted_up low high w h e) (omega arith)
                  | no e ↦
                      let l : s ≤ origin p ((low + high) / 2) = omega arith in
                      halved_down p s f low high h l ∙ ih low ((low + high) / 2) (parted_down low high w h l) (omega arith)
                ]
          ]

  -- halving finds the first transition of a state
  pub halving_first : first_by_halving p s ≡ first_from p s
  unfolding first_by_halving
  halving_first = halved_first (held p) 0 (held p) parted (omega arith)
    where
      parted : Parted 0 (held p)
      parted = record {
        ordered = omega arith;
        few = omega (arith, held_all p kept);
        earlier = λ i h. absurd (omega arith);
        later = λ i h l. absurd (omega (arith, held_all p kept));
      }
