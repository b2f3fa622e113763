-- The action formula of an entry, kind by kind; the depth of the decoding does not matter.
use Prim.Native.Nat.{ℕ, zero, suc, ◌<◌, ◌≤◌}
use mathlib.Core.Path.{◌≡◌, refl, ap, ap₂, ◌∙◌}
use mathlib.Core.Bool.{Bool, true, false}
use mathlib.Core.List.{List}
use native.Mathlib.Omega.{arith}
use lib.Dec.{ltb}
use borrow.Author.Tests.{ltb-true, lt-ltb}
use Rattle.sheet.specs.Actions.{entry_count, entry_kind, entry_x, entry_y}
use Rattle.sheet.specs.WellFormed.{WellFormedEntry, WellFormedActions}
use Rattle.calculus.specs.Formulas.{ActionFormula, or_action, and_action, not_action}
use Rattle.calculus.specs.Decode.{operand, entry_sort, entry_formula, action_within, action_formula}
use Rattle.calculus.specs.Decode.{EntrySort, false_entry, true_entry, action_entry, or_entry, and_entry, not_entry, range_entry, unknown_entry}
use Rattle.calculus.specs.DecodedKinds.{EntryDecoded, EntriesDecoded}

operand_same : (go go' : ℕ → ActionFormula) (x e : ℕ) → (x < e → go x ≡ go' x) → (b : Bool) → ltb x e ≡ b → operand go x b ≡ operand go' x b
operand_same go go' x e h true q = h (ltb-true x e q)
operand_same go go' x e h false q = refl

module _ (a : List ℕ) where
  entry_same : (go go' : ℕ → ActionFormula) (e : ℕ) → ((x : ℕ) → x < e → go x ≡ go' x) → (s : EntrySort) → entry_formula go a e s ≡ entry_formula go' a e s
  entry_same go go' e h false_entry = refl
  entry_same go go' e h true_entry = refl
  entry_same go go' e h action_entry = refl
  entry_same go go' e h or_entry = ap₂ or_action (operand_same go go' _ e (h _) _ refl) (operand_same go go' _ e (h _) _ refl)
  entry_same go go' e h and_entry = ap₂ and_action (operand_same go go' _ e (h _) _ refl) (operand_same go go' _ e (h _) _ refl)
  entry_same go go' e h not_entry = ap not_action (operand_same go go' _ e (h _) _ refl)
  entry_same go go' e h range_entry = refl
  entry_same go go' e h unknown_entry = refl

  -- every depth above e gives the same formula
  action_same : (d d' e : ℕ) → e < d → e < d' → action_within d a e ≡ action_within d' a e
  unfolding action_within
  action_same zero d' e l l' = absurd (omega arith)
  action_same (suc d) zero e l l' = absurd (omega arith)
  action_same (suc d) (suc d') e l l' =
      entry_same (action_within d a) (action_within d' a) e (λ x h. action_same d d' x (omega arith) (omega arith)) (entry_sort (entry_kind a e))

  -- the formula of an entry by those before it
  action_step : (e : ℕ) → action_formula a e ≡ entry_formula (action_formula a) a e (entry_sort (entry_kind a e))
  unfolding action_within
  action_step e = entry_same (action_within e a) (action_formula a) e (λ x h. action_same e (suc x) x h (omega arith)) (entry_sort (entry_kind a e))

  -- and by its kind
  pub entry_of_kind : (e k : ℕ) → entry_kind a e ≡ k → action_formula a e ≡ entry_formula (action_formula a) a e (entry_sort k)
  entry_of_kind e k q = action_step e ∙ ap (λ (j : ℕ). entry_formula (action_formula a) a e (entry_sort j)) q

  below_operand : (e x : ℕ) → x < e → operand (action_formula a) x (ltb x e) ≡ action_formula a x
  below_operand e x l = ap (operand (action_formula a) x) (lt-ltb x e l)

  module _ {A : ℕ} (kept : WellFormedActions A a) (e : ℕ) (l : e < entry_count a) where
    x_below : (s : WellFormedEntry A a e) → 3 ≤ entry_kind a e → entry_kind a e ≤ 5 → entry_x a e < e
    x_below (WellFormedEntry.constant k x y) h g = absurd (omega arith)
    x_below (WellFormedEntry.action k x y) h g = absurd (omega arith)
    x_below (WellFormedEntry.operands k x y) h g = x
    x_below (WellFormedEntry.operand k x y) h g = x
    x_below (WellFormedEntry.range k x y) h g = absurd (omega arith)

    y_below : (s : WellFormedEntry A a e) → 3 ≤ entry_kind a e → entry_kind a e ≤ 4 → entry_y a e < e
    y_below (WellFormedEntry.constant k x y) h g = absurd (omega arith)
    y_below (WellFormedEntry.action k x y) h g = absurd (omega arith)
    y_below (WellFormedEntry.operands k x y) h g = y
    y_below (WellFormedEntry.operand k x y) h g = absurd (omega arith)
    y_below (WellFormedEntry.range k x y) h g = absurd (omega arith)

    x_operand : 3 ≤ entry_kind a e → entry_kind a e ≤ 5 → operand (action_formula a) (entry_x a e) (ltb (entry_x a e) e) ≡ action_formula a (entry_x a e)
    x_operand h g = below_operand e (entry_x a e) (x_below (kept.entries_kept e l) h g)

    y_operand : 3 ≤ entry_kind a e → entry_kind a e ≤ 4 → operand (action_formula a) (entry_y a e) (ltb (entry_y a e) e) ≡ action_formula a (entry_y a e)
    y_operand h g = below_operand e (entry_y a e) (y_below (kept.entries_kept e l) h g)

    decoded : EntryDecoded a e
    decoded = record {
      false_entry_holds = entry_of_kind e 0;
      true_entry_holds = entry_of_kind e 1;
      action_entry_holds = entry_of_kind e 2;
      or_entry_holds = λ q. entry_of_kind e 3 q ∙ ap₂ or_action (x_operand (omega arith) (omega arith)) (y_operand (omega arith) (omega arith));
      and_entry_holds = λ q. entry_of_kind e 4 q ∙ ap₂ and_action (x_operand (omega arith) (omega arith)) (y_operand (omega arith) (omega arith));
      not_entry_holds = λ q. entry_of_kind e 5 q ∙ ap not_action (x_operand (omega arith) (omega arith));
      range_entry_holds = entry_of_kind e 6;
    }

pub entries_decoded : EntriesDecoded
entries_decoded A a = decoded a
