-- Texts put one after another, and the plan with the branch as four of them.
use Prim.Native.Nat.{ℕ, ◌+◌, ◌*◌, ◌≤◌}
use mathlib.Core.Path.{◌≡◌, subst, ◌∙◌}
use mathlib.Core.List.{List, ◌++◌, append_assoc}
use native.Mathlib.Omega.{arith}
use lib.ListN.{length, drop}
use Rattle.text.specs.Placing.{place_after, buffer_after, Puts}
use Rattle.text.proofs.Placing.{Placed, placed_next, placed_at_start}
use Rattle.sheet.specs.Bytes.{slice}
use Rattle.sheet.specs.TransitionSystem.{LabelledTransition}
use Rattle.branches.specs.Branches.{plan_with_at}
use Rattle.branches.specs.Internal.Inserting.{head_with, transition_bytes, Inserting}
use Rattle.branches.proofs.Plans.With.{length_at}

-- four texts, put one after another from the start of a buffer that holds them, are one
pub four_put : (whole room x₁ x₂ x₃ x₄ : List ℕ) → x₁ ++ x₂ ++ x₃ ++ x₄ ≡ whole → length whole ≤ length room
    → {a b c n : ℕ} {v w x y : List ℕ} → Placed 0 room x₁ a v
    → (b ≡ place_after x₂ a v) × (w ≡ buffer_after x₂ a v) → (c ≡ place_after x₃ b w) × (x ≡ buffer_after x₃ b w)
    → (n ≡ place_after x₄ c x) × (y ≡ buffer_after x₄ c x) → Puts whole n room y
four_put whole room x₁ x₂ x₃ x₄ e fits {n = n} {y = y} one two three four =
    placed_at_start
    (subst (λ (text : List ℕ). Placed 0 room text n y) e
    (placed_next x₄ (placed_next x₃ (placed_next x₂ one two) three) four)) fits

module _ (p : List ℕ) (t : LabelledTransition) (place : ℕ) (room : List ℕ) (k : Inserting p place room) where
  -- the plan with the branch: its head, the transitions in front, the branch and the rest
  pub inserted : {start front new rest : List ℕ} → start ≡ head_with p → front ≡ slice p 4 (3 * place) → new ≡ transition_bytes t
      → rest ≡ drop (4 + 3 * place) p
      → {a b c n : ℕ} {v w x y : List ℕ} → Placed 0 room start a v
      → (b ≡ place_after front a v) × (w ≡ buffer_after front a v) → (c ≡ place_after new b w) × (x ≡ buffer_after new b w)
      → (n ≡ place_after rest c x) × (y ≡ buffer_after rest c x) → Puts (plan_with_at p t place) n room y
  inserted {start} {front} {new} {rest} d e f g =
      four_put (plan_with_at p t place) room start front new rest
      (append_assoc (start ++ front) new rest ∙ (λ i. d i ++ e i ++ (f i ++ g i)))
      (omega (arith, length_at p t k.kept place k.place_within, k.room_enough))
