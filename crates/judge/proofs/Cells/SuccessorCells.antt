-- The cells that follow a "some" or an "every" are at the targets of the state's transitions.
use Rattle.std.proofs.Common.{◌≡◌, ℕ, Bool, true, false, ◌&&◌, eqb, List, [], ◌∷◌, refl, eqb-true}
use mathlib.Core.List.{Memᴰ}
use Rattle.sheet.specs.Bytes.{pick}
use Rattle.sheet.specs.TransitionSystem.{LabelledTransition}
use Rattle.sheet.proofs.Checks.Checks.{and_parts}
use Rattle.calculus.specs.Meaning.{meets}
use Rattle.calculus.specs.Decode.{action_formula}
use Rattle.judge.specs.Cells.{Cell, cell, following}
use Rattle.rows.proofs.Systems.Systems.{Each}

-- what holds of (0, d, t) for each transition to t holds of the cells that follow
pub following_each : (A : ℕ) (a : List ℕ) (e d s : ℕ) (Q : Cell → Type 0) (ts : List LabelledTransition)
    → ((t : LabelledTransition) → Memᴰ t ts → t.origin ≡ s → Q (cell 0 d t.target)) → Each Q (following A a e d s ts)
unfolding following
following_each A a e d s Q [] h = tt
following_each A a e d s Q (x ∷ ts) h =
    go (eqb x.origin s && meets A (action_formula a e) x.action) refl (following_each A a e d s Q ts (λ t m o. h t (Memᴰ.tail m) o))
  where
    go : (b : Bool) → (eqb x.origin s && meets A (action_formula a e) x.action) ≡ b → Each Q (following A a e d s ts)
        → Each Q (pick b (cell 0 d x.target ∷ following A a e d s ts) (following A a e d s ts))
    go true q i = (h x (Memᴰ.head refl) (eqb-true x.origin s (and_parts (eqb x.origin s) (meets A (action_formula a e) x.action) q).0), i)
    go false q i = i
