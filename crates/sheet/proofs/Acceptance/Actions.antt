-- An action table passes its checks exactly when it keeps the rules of document 01's "Kind 2, action formulas".
use Prim.Native.Nat.{ℕ, ◌+◌, ◌*◌, ◌<◌}
use mathlib.Core.Path.{◌≡◌, sym, ◌∙◌}
use mathlib.Core.Bool.{true, false, false≢true}
use mathlib.Core.List.{List}
use mathlib.Core.Logic.{◌↔◌}
use native.Mathlib.Omega.{arith}
use native.Mathlib.Decide.{dec_lt}
use lib.ListN.{length}
use lib.Dec.{eqb, ltb, leb}
use borrow.Author.Tests.{lt-ltb, le-leb, eq-eqb, ltb-true, leb-true, eqb-true, not-false}
use Rattle.sheet.specs.Actions.{entry_count, entry_kind, entry_x, entry_y, actions_sized, entry_right, entry_faulty, lowest_entry}
use Rattle.sheet.specs.Refusals.{require}
use Rattle.sheet.specs.Reading.{actions_check}
use Rattle.sheet.specs.WellFormed.{WellFormedEntry, WellFormedActions}
use Rattle.sheet.specs.declared.Refusal.TheVariants.{ActionsSize, EntryFault}
use Rattle.std.specs.Prelude.{Ok}
use Rattle.sheet.specs.Refusals.{Check}
use Rattle.sheet.proofs.Steps.Sizes.{actions_limits, actions_exact}
use Rattle.sheet.proofs.Steps.Entries.{right_constant, right_action, right_pair, right_not, right_range, right_unknown}
use Rattle.sheet.proofs.Nodes.Shapes.{ranged, one_of}
use Rattle.sheet.proofs.Checks.Checks.{and_parts, all, passed_then, then_passed, passed_require, require_passed, none_found}

module _ (actions : ℕ) (a : List ℕ) where
  entry_kept : (e : ℕ) → entry_right actions e (entry_kind a e) (entry_x a e) (entry_y a e) ≡ true → WellFormedEntry actions a e
  entry_kept e q =
      elim (dec_lt k 2) [
        | yes h ↦
            let b = and_parts (eqb x 0) (eqb y 0) (sym (right_constant actions e k x y h) ∙ q) in
            WellFormedEntry.constant (omega arith) (eqb-true x 0 b.0) (eqb-true y 0 b.1)
        | no h ↦ elim (dec_lt k 3) [
          | yes i ↦
              let b = and_parts (ltb x actions) (eqb y 0) (sym (right_action actions e k x y (omega arith)) ∙ q) in
              WellFormedEntry.action (omega arith) (ltb-true x actions b.0) (eqb-true y 0 b.1)
          | no i ↦ elim (dec_lt k 5) [
            | yes j ↦
                let b = and_parts (ltb x e) (ltb y e) (sym (right_pair actions e k x y (omega arith) j) ∙ q) in
                WellFormedEntry.operands (one_of k 3 (omega arith) j) (ltb-true x e b.0) (ltb-true y e b.1)
            | no j ↦ elim (dec_lt k 6) [
              | yes l ↦
                  let b = and_parts (ltb x e) (eqb y 0) (sym (right_not actions e k x y (omega arith)) ∙ q) in
                  WellFormedEntry.operand (omega arith) (ltb-true x e b.0) (eqb-true y 0 b.1)
              | no l ↦ elim (dec_lt k 7) [
                | yes m ↦
                    let b = and_parts (leb x y) (ltb y actions) (sym (right_range actions e k x y (omega arith)) ∙ q) in
                    WellFormedEntry.range (omega arith) (leb-true x y b.0) (ltb-true y actions b.1)
                | no m ↦ absurd (false≢true (sym (right_unknown actions e k x y (omega arith)) ∙ q))
              ]
            ]
          ]
        ]
      ]
    where
      k : ℕ
      k = entry_kind a e

      x : ℕ
      x = entry_x a e

      y : ℕ
      y = entry_y a e

  entry_right_lem : (e : ℕ) → WellFormedEntry actions a e → entry_right actions e (entry_kind a e) (entry_x a e) (entry_y a e) ≡ true
  entry_right_lem e (WellFormedEntry.constant h p q) = right_constant actions e (entry_kind a e) (entry_x a e) (entry_y a e) (omega arith) ∙ all _ _ (eq-eqb _ _ p) (eq-eqb _ _ q)
  entry_right_lem e (WellFormedEntry.action h p q) = right_action actions e (entry_kind a e) (entry_x a e) (entry_y a e) h ∙ all _ _ (lt-ltb _ _ p) (eq-eqb _ _ q)
  entry_right_lem e (WellFormedEntry.operands h p q) =
      let g = ranged (entry_kind a e) 3 h in
      right_pair actions e (entry_kind a e) (entry_x a e) (entry_y a e) g.0 g.1 ∙ all _ _ (lt-ltb _ _ p) (lt-ltb _ _ q)
  entry_right_lem e (WellFormedEntry.operand h p q) = right_not actions e (entry_kind a e) (entry_x a e) (entry_y a e) h ∙ all _ _ (lt-ltb _ _ p) (eq-eqb _ _ q)
  entry_right_lem e (WellFormedEntry.range h p q) = right_range actions e (entry_kind a e) (entry_x a e) (entry_y a e) h ∙ all _ _ (le-leb _ _ p) (lt-ltb _ _ q)

  right_of : (e : ℕ) → entry_faulty actions a e ≡ false → entry_right actions e (entry_kind a e) (entry_x a e) (entry_y a e) ≡ true
  unfolding entry_faulty
  right_of e q = not-false (entry_right actions e (entry_kind a e) (entry_x a e) (entry_y a e)) q

  fine : (e : ℕ) → entry_right actions e (entry_kind a e) (entry_x a e) (entry_y a e) ≡ true → entry_faulty actions a e ≡ false
  unfolding entry_faulty
  fine e q = rw q

  abbrev sizes : Check
  sizes = require (actions_sized a) ActionsSize

  abbrev entries : Check
  entries = require (eqb (lowest_entry actions a) (entry_count a)) (EntryFault (lowest_entry actions a))

  kept : actions_check actions a ≡ Ok tt → WellFormedActions actions a
  unfolding actions_check
  kept q =
      let c = passed_then sizes entries q in
      let s = actions_limits a (passed_require (actions_sized a) ActionsSize c.0) in
      let t : (e : ℕ) → e < entry_count a → entry_faulty actions a e ≡ false =
      (none_found (entry_faulty actions a) (entry_count a)).0 (passed_require (eqb (lowest_entry actions a) (entry_count a)) (EntryFault (lowest_entry actions a)) c.1) in
      record { headed = s.0; few = s.1; exact = s.2; entries_kept = λ e h. entry_kept e (right_of e (t e h)) }

  passes : WellFormedActions actions a → actions_check actions a ≡ Ok tt
  unfolding actions_check
  passes k =
      then_passed sizes entries
      (require_passed (actions_sized a) ActionsSize (actions_exact a k.headed k.few ∙ eq-eqb (length a) (1 + 3 * entry_count a) k.exact))
      (require_passed (eqb (lowest_entry actions a) (entry_count a)) (EntryFault (lowest_entry actions a))
      ((none_found (entry_faulty actions a) (entry_count a)).1 (λ e h. fine e (entry_right_lem e (k.entries_kept e h)))))

  pub actions_iff : (actions_check actions a ≡ Ok tt) ↔ WellFormedActions actions a
  actions_iff = (kept, passes)
