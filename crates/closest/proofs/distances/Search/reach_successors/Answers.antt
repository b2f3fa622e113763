use native.Mathlib.Omega.{arith}
use Prim.Native.Nat.{ℕ, ◌+◌, ◌<◌}
use mathlib.Core.Path.{◌≡◌, refl, sym, ap, ◌∙◌}
use mathlib.Core.Bool.{true, false, not, true≢false}
use mathlib.Core.List.{List}
use mathlib.Core.Logic.{◌≢◌}
use lib.ListN.{get_or}
use Rattle.std.specs.Prelude.{Option, None, Some, is_some}
use Rattle.std.proofs.lemmas.List.{map-set}
use Rattle.sheet.specs.declared.Transition.{Transition}
use Rattle.graph.specs.Explored.{first_from}
use Rattle.closest.specs.Internal.Distances.{Distances, mark_of, marks_of}
use Rattle.closest.proofs.Search.Marks.{marked_at, next_below, next_reached, next_low}
use Rattle.closest.proofs.Search.Marking.{marking_starts, marking_ends, queue_room, marking_past, marking_new}
use Rattle.closest.proofs.distances.Search.reach_successors.Goals as goal
use Rattle.closest.proofs.distances.Search.reach_successors.Goals.{After-unwrap-steps, In-loop-i, then-is_none, else-is_none}

pub bounds-self-at : goal.bounds-self-at
bounds-self-at c = omega (arith, c.from-at.ensures, next_below c.requires, c.requires.kept.few_states)

pub unwrap-steps-requires : goal.unwrap-steps-requires
unwrap-steps-requires c = rw c.from-at.ensures (next_reached c.args.self.now.distances c.requires)

pub overflow_add-steps : goal.overflow_add-steps
overflow_add-steps c = omega (arith, next_low c.args.self.now.distances c.requires c.unwrap-steps.result (rw c.from-at.ensures at c.unwrap-steps.ensures))

pub loop-i-init : goal.loop-i-init
loop-i-init c =
    let d = c.args.self.now.distances in
    let at = c.from-at.result in
    (refl, marking_starts c.requires _ _ _ c.from-at.ensures (omega (arith, marked_at d at ∙ ap mark_of c.unwrap-steps.ensures)) (c.requires.firsts_right.first at (omega (arith, c.from-at.ensures, next_below c.requires, c.requires.kept.few_states))))

-- transition i leaves the state
module _ (c : In-loop-i) where
  abbrev before : After-unwrap-steps
  before = (goal.at.In-loop-i c).After-unwrap-steps

  abbrev at : ℕ
  at = before.from-at.result

  abbrev plan : List ℕ
  plan = before.args.plan.now

  more : c.loop-i.i < first_from plan (at + 1)
  more = omega (arith, c.loop-i-test.true, before.requires.firsts_right.first (at + 1) (omega (arith, before.from-at.ensures, next_below before.requires, before.requires.kept.few_states)))

not_reached : (d : Distances) (t : ℕ) → is_some (get_or d t None) ≡ false → get_or (marks_of d) t 0 ≡ 0
not_reached d t e = marked_at d t ∙ go (get_or d t None) e
  where
    go : (o : Option ℕ) → is_some o ≡ false → mark_of o ≡ 0
    go None e = refl
    go (Some n) e = absurd (true≢false e)

reached : (d : Distances) (t : ℕ) → is_some (get_or d t None) ≡ true → get_or (marks_of d) t 0 ≢ 0
reached d t e z = go (get_or d t None) e (sym (marked_at d t) ∙ z)
  where
    go : (o : Option ℕ) → is_some o ≡ true → mark_of o ≡ 0 → ⊥
    go None e z = absurd (true≢false (sym e))
    go (Some n) e z = absurd (omega arith)

pub push-requires : goal.push-requires
push-requires c =
    let d = c.loop-i.self.distances in
    let t = c.from.result in
    queue_room c.loop-i.invariant.1 (more (goal.at.push-requires c).In-loop-i) t (c.from.ensures ∙ ap (λ (x : Transition). x.to.0) c.transition-to.ensures)
    (not_reached d t (c.is_none.ensures ∙ ap not c.if-is_none.true))

pub loop-i-preserved : goal.loop-i-preserved
loop-i-preserved c =
    let d = c.loop-i.self.distances in
    let t = c.from.result in
    let m = c.loop-i.invariant in
    let e = c.from.ensures ∙ ap (λ (x : Transition). x.to.0) c.transition-to.ensures in
    let l = more (goal.at.loop-i-preserved c).In-loop-i in
    elim c.if-is_none.branch [
      | then-is_none w ↦
          rw (w.self-is, w.push.ensures, w.from-then-is_none.ensures, sym c.from.ensures, map-set mark_of d t (Some (c.unwrap-steps.result + 1)))
          (m.0, marking_new m.1 l t e (not_reached d t (c.is_none.ensures ∙ ap not w.if-is_none.true)))
      | else-is_none w ↦ rw w.self-is (m.0, marking_past m.1 l t e (reached d t (c.is_none.ensures ∙ ap not w.if-is_none.false)))
    ]

pub returns-clause-reached : goal.returns-clause-reached
returns-clause-reached c =
    let at = c.from-at.result in
    marking_ends c.loop-i.invariant.1 (omega (arith, c.loop-i-test.false, c.requires.firsts_right.first (at + 1) (omega (arith, c.from-at.ensures, next_below c.requires, c.requires.kept.few_states))))
