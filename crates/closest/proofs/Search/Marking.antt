-- The successors of the next state are marked, one transition after another.
use Prim.Native.Nat.{ℕ, suc, ◌+◌, ◌<◌, ◌≤◌}
use mathlib.Core.Path.{◌≡◌, sym, ap, subst, ◌∙◌}
use mathlib.Core.List.{List, [], ◌∷◌, ◌++◌, Memᴰ}
use mathlib.Core.Logic.{◌≢◌}
use native.Mathlib.Omega.{arith}
use native.Mathlib.Decide.{ℕ_discrete, dec_lt}
use lib.ListN.{length, get_or, set, length-set, get_or-append, length-append}
use lib.Seq.{get_or-set_same, get_or-set_other, get_or-append_seam}
use Rattle.std.proofs.lemmas.Option.{get_or_from_slice_get, slice_get_within}
use borrow.Author.Count.{below_more}
use Rattle.sheet.specs.Plan.{target}
use Rattle.sheet.specs.WellFormed.{WellFormedPlan}
use Rattle.graph.specs.Explored.{first_from}
use Rattle.graph.specs.Search.{most_states}
use Rattle.graph.specs.Successors.{successors}
use Rattle.graph.specs.Internal.Searching.{unseen}
use Rattle.graph.proofs.Looptest.Successors.{successor_below}
use Rattle.graph.proofs.Search.Outgoing.{successor_at, successor_stands}
use Rattle.closest.specs.Steps.{WayOf, onward}
use Rattle.closest.specs.Internal.Distances.{Queued, ReachRequires}
use Rattle.graph.proofs.Search.Colouring.{unseen_one}
use Rattle.closest.proofs.Search.Marks.{queued_marked}

-- a target has a mark, which is at most this
abbrev pub MarkedBy : List ℕ → ℕ → ℕ → Type 0
MarkedBy marks mark t = (get_or marks t 0 ≢ 0) × (get_or marks t 0 ≤ mark)

-- the targets of the next state's transitions before i are marked
pub record Marking (p marks queue : List ℕ) (done at mark i : ℕ) : Type 0 where
  pub kept : WellFormedPlan p
  pub so_far : Queued p marks queue done
  pub some_left : done < length queue
  pub is_next : get_or queue done 0 ≡ at
  pub one_more : mark ≡ suc (get_or marks (get_or queue done 0) 0)
  pub after_first : first_from p at ≤ i
  pub targets_marked : (k : ℕ) → k < i → first_from p at ≤ k → MarkedBy marks mark (target p k)

pub marking_starts : {p firsts marks queue : List ℕ} {done state : ℕ} → ReachRequires p firsts marks queue done state
    → (at mark i : ℕ) → at ≡ state → mark ≡ suc (get_or marks at 0) → i ≡ first_from p at → Marking p marks queue done at mark i
marking_starts {marks = marks} {queue = queue} {done = done} {state = state} g at mark i e m f =
    let n : get_or queue done 0 ≡ at = get_or_from_slice_get queue done state 0 g.is_next ∙ sym e in
    record {
      kept = g.kept;
      so_far = g.so_far;
      some_left = slice_get_within queue done state g.is_next;
      is_next = n;
      one_more = m ∙ ap (λ (u : ℕ). suc (get_or marks u 0)) (sym n);
      after_first = omega arith;
      targets_marked = λ k a b. absurd (omega arith);
    }

module _ {p marks queue : List ℕ} {done at mark i : ℕ} (w : Marking p marks queue done at mark i) where
  -- no mark is above this one
  highest : (j : ℕ) → j < length queue → get_or marks (get_or queue j 0) 0 ≤ mark
  highest j l = omega (arith, w.so_far.near w.some_left j l, w.one_more)

  -- the next state is done
  pub marking_ends : first_from p (at + 1) ≤ i → Queued p marks queue (done + 1)
  marking_ends h = record {
    room = q.room;
    each_once = q.each_once;
    start = q.start;
    queued = q.queued;
    found = q.found;
    sorted = q.sorted;
    near = λ l k b. omega (arith, highest k b, w.one_more, q.sorted done (done + 1) (omega arith) l);
    passed = below_more _ done q.passed (λ t m. last t (subst (λ (s : ℕ). Memᴰ t (successors p s)) w.is_next m));
  }
    where
      q : Queued p marks queue done
      q = w.so_far

      last : (t : ℕ) → Memᴰ t (successors p at) → MarkedBy marks (suc (get_or marks (get_or queue done 0) 0)) t
      last t m =
          let d = successor_stands p w.kept at t m in
          subst (MarkedBy marks _) d.3
          (subst (λ (x : ℕ). MarkedBy marks x (target p d.0)) w.one_more (w.targets_marked d.0 (omega (arith, d.2)) d.1))

  module _ (h : i < first_from p (at + 1)) (t : ℕ) (e : t ≡ target p i) where
    among : Memᴰ t (successors p at)
    among = rw e (successor_at p w.kept at i w.after_first h)

    pub target_inside : t < most_states
    target_inside = omega (arith, successor_below w.kept at t among, w.kept.few_states)

    -- the target is marked already
    pub marking_past : get_or marks t 0 ≢ 0 → Marking p marks queue done at mark (i + 1)
    marking_past n = record {
      kept = w.kept;
      so_far = w.so_far;
      some_left = w.some_left;
      is_next = w.is_next;
      one_more = w.one_more;
      after_first = omega (arith, w.after_first);
      targets_marked = below_more _ i w.targets_marked (λ a. here);
    }
      where
        here : MarkedBy marks mark (target p i)
        here =
            let f = w.so_far.found t n in
            subst (MarkedBy marks mark) e (n, omega (arith, highest f.0 f.1, ap (λ (u : ℕ). get_or marks u 0) f.2))

    -- the target is marked and queued
    module _ (z : get_or marks t 0 ≡ 0) where
      q : Queued p marks queue done
      q = w.so_far

      left : suc (unseen (set marks t mark)) ≡ unseen marks
      left =
          ap (λ (m : ℕ). suc (unseen (set marks t m))) w.one_more ∙
          unseen_one marks t _ (omega (arith, q.room, target_inside)) z

      pub queue_room : (length queue) < most_states
      queue_room = omega (arith, left, q.each_once)

      new_mark : get_or (set marks t mark) t 0 ≡ mark
      new_mark = get_or-set_same marks t mark 0 (omega (arith, q.room, target_inside))

      mark_kept : (u : ℕ) → get_or marks u 0 ≢ 0 → get_or (set marks t mark) u 0 ≡ get_or marks u 0
      mark_kept u n = get_or-set_other marks t u mark 0 (λ x. n (ap (λ (v : ℕ). get_or marks v 0) x ∙ z))

      marked_still : (m u : ℕ) → MarkedBy marks m u → MarkedBy (set marks t mark) m u
      marked_still m u (n, b) = let k = mark_kept u n in ((λ x. n (sym k ∙ x)), omega arith)

      new_queued : get_or (queue ++ t ∷ []) (length queue) 0 ≡ t
      new_queued = get_or-append_seam queue t [] 0

      queued_kept : (j : ℕ) → j < length queue → get_or (queue ++ t ∷ []) j 0 ≡ get_or queue j 0
      queued_kept j l = get_or-append queue (t ∷ []) 0 j l

      longer : length (queue ++ t ∷ []) ≡ length queue + 1
      longer = length-append queue (t ∷ [])

      -- the mark of a place in the queue
      abbrev mark_at : ℕ → ℕ
      mark_at j = get_or (set marks t mark) (get_or (queue ++ t ∷ []) j 0) 0

      at_kept : (j : ℕ) → j < length queue → mark_at j ≡ get_or marks (get_or queue j 0) 0
      at_kept j l = ap (λ (u : ℕ). get_or (set marks t mark) u 0) (queued_kept j l) ∙ mark_kept _ (queued_marked q j l)

      at_new : mark_at (length queue) ≡ mark
      at_new = ap (λ (u : ℕ). get_or (set marks t mark) u 0) new_queued ∙ new_mark

      at_most_holds : (j : ℕ) → j < length queue + 1 → mark_at j ≤ mark
      at_most_holds = below_more _ (length queue) (λ j l. omega (arith, at_kept j l, highest j l)) (omega (arith, at_new))

      at_sorted : (j k : ℕ) → j ≤ k → k < length queue + 1 → mark_at j ≤ mark_at k
      at_sorted j k a b =
          elim (dec_lt k (length queue)) [
            | yes l ↦ omega (arith, at_kept j (omega arith), at_kept k l, q.sorted j k a l)
            | no l ↦
                let x : k ≡ length queue = omega arith in
                omega (arith, at_most_holds j (omega arith), ap mark_at x, at_new)
          ]

      next : done < length queue
      next = w.some_left

      -- the way to a place in the queue
      abbrev WayAt : ℕ → Type 0
      WayAt j = (n : ℕ) × (mark_at j ≡ suc n) × (n ≤ j) × WayOf p n (get_or (queue ++ t ∷ []) j 0)

      queued_before : (j : ℕ) → j < length queue → WayAt j
      queued_before j l =
          let o = q.queued j l in
          (o.0, at_kept j l ∙ o.1, o.2, subst (WayOf p o.0) (sym (queued_kept j l)) o.3)

      queued_now : WayAt (length queue)
      queued_now =
          let o = q.queued done next in (
            suc o.0,
            omega (arith, at_new, w.one_more, o.1),
            omega (arith, o.2, next),
            subst (WayOf p (suc o.0)) (sym new_queued) (onward (subst (WayOf p o.0) w.is_next o.3) among),
          )

      found_now : (u : ℕ) → get_or (set marks t mark) u 0 ≢ 0 → (j : ℕ) × (j < length queue + 1) × (get_or (queue ++ t ∷ []) j 0 ≡ u)
      found_now u n =
          elim (ℕ_discrete u t) [
            | yes x ↦ (length queue, omega arith, new_queued ∙ sym x)
            | no x ↦
                let f = q.found u (λ y. n (get_or-set_other marks t u mark 0 x ∙ y)) in
                (f.0, omega (arith, f.1), queued_kept f.0 f.1 ∙ f.2)
          ]

      pub marking_new : Marking p (set marks t mark) (queue ++ t ∷ []) done at mark (i + 1)
      marking_new = record {
        kept = w.kept;
        so_far = record {
          room = length-set marks t mark ∙ q.room;
          each_once = omega (arith, longer, left, q.each_once);
          start = mark_kept 0 (λ x. omega (arith, q.start)) ∙ q.start;
          queued = λ j l. below_more WayAt (length queue) queued_before queued_now j (omega (arith, longer));
          found = λ u n. let f = found_now u n in (f.0, omega (arith, f.1, longer), f.2);
          sorted = λ j k a l. at_sorted j k a (omega (arith, longer));
          near = λ l k b. omega (arith, longer, at_most_holds k (omega (arith, longer)), at_kept done next, w.one_more);
          passed = λ j l u m.
              let b : j < length queue = omega (arith, next) in
              rw (at_kept j b)
              (marked_still _ u (q.passed j l u (subst (λ (s : ℕ). Memᴰ u (successors p s)) (queued_kept j b) m)));
        };
        some_left = omega (arith, next, longer);
        is_next = queued_kept done next ∙ w.is_next;
        one_more = w.one_more ∙ ap suc (sym (at_kept done next));
        after_first = omega (arith, w.after_first);
        targets_marked =
            below_more _ i (λ k l a. marked_still mark (target p k) (w.targets_marked k l a))
            (λ a. subst (MarkedBy (set marks t mark) mark) e ((λ x. omega (arith, new_mark, w.one_more)), omega (arith, new_mark)));
      }
