-- The recursion `graph::searching::visit` meets its contract, by the steps of `scan`.
use native.Mathlib.Omega.{arith}
use mathlib.Core.Path.{◌≡◌, refl, sym, ap, subst, ◌∙◌}
use mathlib.Core.Bool.{Bool, true, false}
use mathlib.Core.List.{List}
use mathlib.Core.Logic.{◌≢◌}
use Prim.Native.Nat.{ℕ, ◌+◌}
use denote.Enum.Bare.{same_true, same_false}
use lib.ListN.{get_or, set, length-set}
use Rattle.sheet.specs.Plan.{target}
use Rattle.graph.specs.contracts.searching.Colour.{the_type}
use Rattle.graph.specs.declared.Index.{Index}
use Rattle.graph.specs.declared.searching.Colour.{Colour}
use Rattle.graph.specs.declared.searching.Colour.TheVariants.{Unseen, Open, Done}
use Rattle.graph.specs.Index.{with_first, with_action}
use Rattle.graph.specs.Search.{colour_is_done}
use Rattle.graph.specs.Internal.Searching.{Visited}
use Rattle.graph.proofs.Search.Colouring.{told_done, told_not_done}
use Rattle.graph.proofs.Search.Halving.{held_inside}
use Rattle.graph.proofs.Search.ScanSteps.{Begun, begins, Scanning, Turn, turns, visited_open, scan_starts, fewer_unseen, scan_past, scan_found, scan_next, scan_ends}
use Rattle.graph.proofs.searching.+visit.Goals as goal
use Rattle.graph.proofs.searching.+visit.Goals.{At-loop-i, After-is_done, else-loop-i-test, then-loop-i-test+then-origin_at-state, else-not-is_done-via-then-not-is_done+else-not-visit, else-not-is_done-via-else-not-is_done}

pub returns-then-eq : goal.returns-then-eq
returns-then-eq t c = visited_open _ _ _ _ (same_true the_type tt _ _ (sym c.eq.ensures ∙ c.if-eq.true))

pub loop-i-init : goal.loop-i-init
loop-i-init t c = (refl, scan_starts _ _ _ _ _ c.first_from-first.ensures.0 (omega (arith, c.first_from-first.ensures.1, c.requires.counted.is_held)))

-- the loop's head
module _ {t : ℕ} (c : At-loop-i t) where
  begun : Begun c.args.plan.now c.args.state.0 c.args.index.now c.args.colours.now
      (with_first c.args.index.now c.args.state.0 c.first_from-first.result)
  begun =
      begins _ _ _ _ _ (omega (arith, c.requires.room)) c.requires.not_done (same_false the_type _ _ (sym c.eq.ensures ∙ c.if-eq.false)) c.first_from-first.ensures.0

  -- the scan as it stands
  abbrev Scanned : ℕ → Index → List Colour → Type 0
  Scanned i index colours =
      Scanning c.args.plan.now c.args.state.0 (with_first c.args.index.now c.args.state.0 c.first_from-first.result)
      (set c.args.colours.now c.args.state.0 Open) i index colours

pub origin_at-requires : goal.origin_at-requires
origin_at-requires t c = held_inside _ c.loop-i.i (omega (arith, c.requires.counted.is_held))

pub label_at-action-requires : goal.label_at-action-requires
label_at-action-requires t c = held_inside _ c.loop-i.i (omega (arith, c.requires.counted.is_held))

pub target_at-next-requires : goal.target_at-next-requires
target_at-next-requires t c = held_inside _ c.loop-i.i (omega (arith, c.requires.counted.is_held))

-- transition i is one of the state's, and its action is noted
module _ {t : ℕ} (c : After-is_done t) where
  abbrev head : At-loop-i t
  head = (goal.at.After-is_done t c).At-loop-i

  abbrev here : ℕ
  here = target c.args.plan.now c.loop-i.i

  abbrev noted : Index
  noted = with_action c.loop-i.index c.label_at-action.result.0

  turn : Turn c.args.plan.now c.args.state.0 c.loop-i.i c.loop-i.index noted
  turn =
      turns _ _ _ _ _ (omega (arith, c.requires.counted.is_held))
      (sym c.origin_at.ensures ∙ c.if-origin_at-state.false) c.label_at-action.ensures

  low : c.is_done.result ≡ false → get_or c.loop-i.colours here Unseen ≢ Done
  low e = told_not_done _ (ap (λ (k : ℕ). colour_is_done (get_or c.loop-i.colours k Unseen)) (sym c.target_at-next.ensures) ∙ (sym c.is_done.ensures ∙ e))

  -- the target is done
  past : c.is_done.result ≡ true → Scanned head (c.loop-i.i + 1) noted c.loop-i.colours
  past e =
      scan_past (begun head) c.loop-i.invariant.1 turn
      (told_done _ (ap (λ (k : ℕ). colour_is_done (get_or c.loop-i.colours k Unseen)) (sym c.target_at-next.ensures) ∙ (sym c.is_done.ensures ∙ e)))

  -- the target is searched
  module _ (e : c.is_done.result ≡ false) {index' : Index} {after : List Colour} {r : Bool} where
    got : {b : Bool} → r ≡ b → Visited c.args.plan.now noted c.loop-i.colours index' after c.target_at-next.result.0 r
        → Visited c.args.plan.now noted c.loop-i.colours index' after here b
    got f v =
        subst (λ (b : Bool). Visited c.args.plan.now noted c.loop-i.colours index' after here b) f
        (subst (λ (u : ℕ). Visited c.args.plan.now noted c.loop-i.colours index' after u r) c.target_at-next.ensures v)

    found : r ≡ false → Visited c.args.plan.now noted c.loop-i.colours index' after c.target_at-next.result.0 r
        → Visited c.args.plan.now c.args.index.now c.args.colours.now index' after c.args.state.0 false
    found f v = scan_found (begun head) c.loop-i.invariant.1 turn (low e) (got f v)

    went_on : r ≡ true → Visited c.args.plan.now noted c.loop-i.colours index' after c.target_at-next.result.0 r
        → Scanned head (c.loop-i.i + 1) index' after
    went_on f v = scan_next (begun head) c.loop-i.invariant.1 turn (low e) (got f v)

pub visit-requires : goal.visit-requires
visit-requires t c = (
  omega (arith, c.decreases, c.loop-i.invariant.1.none_forgotten, fewer_unseen (begun (goal.at.visit-requires t c).At-loop-i)),
  record {
    counted = c.requires.counted;
    room = c.loop-i.invariant.1.same_length ∙ (simp length-set c.requires.room);
    not_done = told_not_done _ (sym c.is_done.ensures ∙ c.if-not-is_done.true);
  },
)

pub returns-then-not-visit : goal.returns-then-not-visit
returns-then-not-visit t c = found (goal.at.returns-then-not-visit t c).After-is_done c.if-not-is_done.true c.if-not-visit.true c.visit.ensures

pub loop-i-preserved : goal.loop-i-preserved
loop-i-preserved t c = (
  refl,
  elim c.else-not-is_done.branch [
    | else-not-is_done-via-then-not-is_done+else-not-visit w ↦
        rw (w.index-is, w.colours-is) (went_on (goal.at.loop-i-preserved t c).After-is_done w.if-not-is_done.true w.if-not-visit.false w.visit.ensures)
    | else-not-is_done-via-else-not-is_done w ↦
        rw (w.index-is, w.colours-is) (past (goal.at.loop-i-preserved t c).After-is_done w.if-not-is_done.false)
  ],
)

pub returns : goal.returns
returns t c =
    scan_ends (begun (goal.at.returns t c).At-loop-i) c.loop-i.invariant.1
    (λ h e. elim c.loop-i-test.branch [
      | else-loop-i-test w ↦ omega (arith, c.requires.counted.is_held)
      | then-loop-i-test+then-origin_at-state w ↦ w.if-origin_at-state.true (w.origin_at.ensures ∙ e)
    ])
    (ap (λ (k : ℕ). with_first c.loop-i.index (c.args.state.0 + 1) k) c.loop-i.invariant.0)
