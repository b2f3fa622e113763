-- The operators that wait: the test on the one on top, the loop that gives them their last operand, and one more put on top.
use Prim.Native.Nat.{ℕ, zero, suc, ◌+◌, ◌-◌, ◌<◌, ◌≤◌}
use mathlib.Core.Path.{◌≡◌, refl, ap, ap₂, ◌∙◌}
use mathlib.Core.Bool.{true, false, false≢true}
use mathlib.Core.List.{List, [], ◌∷◌}
use native.Mathlib.Omega.{arith}
use native.Mathlib.Numerals.{add-one}
use lib.ListN.{length, get_or, set}
use lib.Seq.{get_or-set_same, get_or-set_other}
use Rattle.action_line.specs.Precedence.{Waiting, reduce}
use Rattle.action_line.specs.Internal.Building.{Made, entries_in_place, waiting_of, stack_of, on_top}
use Rattle.action_line.specs.declared.builder.Operator.TheVariants.{Or}
use Rattle.action_line.specs.declared.builder.Pending.{Pending}

-- ---- the test on the operator on top

module _ (waiting : List Pending) where
  abbrev pub last_of : ℕ → Pending
  last_of n = get_or waiting (n - 1) (record { operator = Or; depth = 0; left = 0 })

  pub none_waiting : (n : ℕ) → n ≡ 0 → stack_of waiting n ≡ []
  unfolding stack_of
  none_waiting n q = rw q refl

  pub some_waiting : (n : ℕ) → 0 < n → stack_of waiting n ≡ waiting_of (last_of n) ∷ stack_of waiting (n - 1)
  unfolding stack_of
  some_waiting zero l = absurd (omega arith)
  some_waiting (suc i) l = let e : suc i - 1 ≡ i = omega arith in rw e refl

  -- ---- the loop

  module _ (kind d n : ℕ) where
    pub top_some : on_top kind d (stack_of waiting n) ≡ true → 0 < n
    unfolding stack_of
    top_some h = by n h
      where
        by : (n : ℕ) → on_top kind d (stack_of waiting n) ≡ true → 0 < n
        by zero h = absurd (false≢true h)
        by (suc i) h = omega arith

    pub one_reduced : (o : Made) → on_top kind d (stack_of waiting n) ≡ true
        → reduce entries_in_place kind d (stack_of waiting n) o
        ≡ reduce entries_in_place kind d (stack_of waiting (n - 1)) (entries_in_place.combine (waiting_of (last_of n)).kind (last_of n).left o)
    unfolding reduce
    one_reduced o h = let e = some_waiting n (top_some h) in rw e (let k = rw e at h in rw k refl)

pub all_reduced : (kind d : ℕ) (ws : List (Waiting ℕ)) (o : Made) → on_top kind d ws ≡ false
    → reduce entries_in_place kind d ws o ≡ record { depth = d; stack = ws; made = o }
unfolding reduce
all_reduced kind d [] o h = refl
all_reduced kind d (w ∷ ws) o h = rw h refl

-- ---- an operator on top

module _ (waiting : List Pending) (n : ℕ) (p : Pending) where
  below_same : (i : ℕ) → i ≤ n → stack_of (set waiting n p) i ≡ stack_of waiting i
  unfolding stack_of
  below_same zero h = refl
  below_same (suc i) h =
      ap₂ (λ (w : Pending) (ws : List (Waiting ℕ)). waiting_of w ∷ ws) (get_or-set_other waiting n i p _ (λ e. omega arith)) (below_same i (omega arith))

  pub pushed : n < length waiting → stack_of (set waiting n p) (n + 1) ≡ waiting_of p ∷ stack_of waiting n
  unfolding stack_of
  pushed l =
      ap (stack_of (set waiting n p)) (add-one n)
      ∙ ap₂ (λ (w : Pending) (ws : List (Waiting ℕ)). waiting_of w ∷ ws) (get_or-set_same waiting n p _ l) (below_same n (omega arith))
