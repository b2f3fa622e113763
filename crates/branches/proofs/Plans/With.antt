-- The plan with a branch: it is well formed, and its transitions are the old ones and the branch.
use Prim.Native.Nat.{ℕ, zero, suc, ◌+◌, ◌-◌, ◌*◌, ◌<◌, ◌≤◌}
use mathlib.Core.Path.{◌≡◌, refl, sym, ap, ap₂, subst, subst₂, ◌∙◌}
use mathlib.Core.Bool.{true}
use mathlib.Core.List.{List, ◌∷◌, ◌++◌, Memᴰ}
use mathlib.Core.Logic.{◌↔◌, ◌⊎◌, inl, inr}
use native.Mathlib.Omega.{arith}
use native.Mathlib.Decide.{dec_lt}
use lib.ListN.{length, take, drop, length-append, length-drop, get_or-append}
use lib.Seq.{length-take-le, get_or-append-add, get_or-take, get_or-drop}
use Rattle.sheet.specs.Bytes.{byte, slice}
use Rattle.sheet.specs.Plan.{state_count, action_count, transition_count}
use Rattle.sheet.specs.TransitionSystem.{LabelledTransition, transition_of, transitions_from, plan_of, precedes}
use Rattle.sheet.specs.WellFormed.{WellFormedPlan}
use Rattle.sheet.proofs.TransitionOrder.{precedes_iff}
use Rattle.sheet.proofs.TransitionSystem.{Stands, member_at, at_member}
use Rattle.branches.specs.Branches.{plan_with_at, plan_with, insertion_place}
use Rattle.branches.proofs.Plans.Places.{rise_far, place_within, before_place}
use Rattle.branches.proofs.Plans.Fitting.{Fits, after_place_holds}

module _ (p : List ℕ) (t : LabelledTransition) where
  pub states_same : state_count (plan_with p t) ≡ state_count p
  unfolding plan_with
  states_same = refl

  pub actions_same : action_count (plan_with p t) ≡ action_count p
  unfolding plan_with
  actions_same = refl

  module _ (k : WellFormedPlan p) where
    -- bytes and transitions where the branch is put before transition i: those below i, the branch, and the rest
    module _ (i : ℕ) (h : i ≤ transition_count p) where
      abbrev front : List ℕ
      front = slice p 4 (3 * i)

      abbrev back : List ℕ
      back = t.origin ∷ t.action ∷ t.target ∷ drop (4 + 3 * i) p

      front_length : length front ≡ 3 * i
      front_length = length-take-le (3 * i) (drop 4 p) (omega (arith, length-drop 4 p, k.exact))

      byte_below : (m : ℕ) → m < 3 * i → byte (plan_with_at p t i) (4 + m) ≡ byte p (4 + m)
      byte_below m l =
          sym (get_or-drop 4 (plan_with_at p t i) m 0) ∙ get_or-append front back 0 m (omega (arith, front_length)) ∙
          get_or-take (3 * i) (drop 4 p) m 0 l ∙ get_or-drop 4 p m 0

      byte_from : (m n : ℕ) → n ≡ 4 + (3 * i + m) → byte (plan_with_at p t i) n ≡ byte back m
      byte_from m n e =
          let s : n ≡ 4 + (length front + m) = omega (arith, front_length) in
          ap (byte (plan_with_at p t i)) s ∙ sym (get_or-drop 4 (plan_with_at p t i) (length front + m) 0) ∙ get_or-append-add front back m 0

      byte_above : (m n o : ℕ) → n ≡ 4 + 3 * i + (3 + m) → o ≡ 4 + 3 * i + m → byte (plan_with_at p t i) n ≡ byte p o
      byte_above m n o e q =
          byte_from (3 + m) n (omega arith) ∙ sym (get_or-drop 3 back m 0) ∙ get_or-drop (4 + 3 * i) p m 0 ∙ ap (byte p) (sym q)

      below_at : (j : ℕ) → j < i → transition_of (plan_with_at p t i) j ≡ transition_of p j
      below_at j l = λ x.
          record {
            origin = at 0 (4 + 3 * j) (omega arith) (omega arith) x;
            action = at 1 (5 + 3 * j) (omega arith) (omega arith) x;
            target = at 2 (6 + 3 * j) (omega arith) (omega arith) x;
          }
        where
          at : (c n : ℕ) → c < 3 → n ≡ 4 + (3 * j + c) → byte (plan_with_at p t i) n ≡ byte p n
          at c n d e = ap (byte (plan_with_at p t i)) e ∙ byte_below (3 * j + c) (omega arith) ∙ ap (byte p) (sym e)

      branch_at : transition_of (plan_with_at p t i) i ≡ t
      branch_at = λ x.
          record {
            origin = byte_from 0 (4 + 3 * i) (omega arith) x;
            action = byte_from 1 (5 + 3 * i) (omega arith) x;
            target = byte_from 2 (6 + 3 * i) (omega arith) x;
          }

      above_at : (j : ℕ) → i ≤ j → transition_of (plan_with_at p t i) (suc j) ≡ transition_of p j
      above_at j l = λ x.
          record {
            origin = at 0 (4 + 3 * suc j) (4 + 3 * j) (omega arith) (omega arith) x;
            action = at 1 (5 + 3 * suc j) (5 + 3 * j) (omega arith) (omega arith) x;
            target = at 2 (6 + 3 * suc j) (6 + 3 * j) (omega arith) (omega arith) x;
          }
        where
          at : (c n o : ℕ) → n ≡ 4 + (3 * suc j + c) → o ≡ 4 + (3 * j + c) → byte (plan_with_at p t i) n ≡ byte p o
          at c n o e q = byte_above (3 * (j - i) + c) n o (omega arith) (omega arith)

    -- at whatever place
    pub length_at : (i : ℕ) → i ≤ transition_count p → length (plan_with_at p t i) ≡ length p + 3
    length_at i h =
        omega (arith, length-append (front i h) (back i h), front_length i h, length-drop (4 + 3 * i) p, k.exact)

    pub with_length : length (plan_with p t) ≡ length p + 3
    unfolding plan_with
    with_length = length_at (insertion_place p t) (place_within p t)

    -- the transitions of the plan with the branch at its place
    abbrev place : ℕ
    place = insertion_place p t

    below : (j : ℕ) → j < place → transition_of (plan_with p t) j ≡ transition_of p j
    unfolding plan_with
    below = below_at place (place_within p t)

    branch : transition_of (plan_with p t) place ≡ t
    unfolding plan_with
    branch = branch_at place (place_within p t)

    above : (j : ℕ) → place ≤ j → transition_of (plan_with p t) (suc j) ≡ transition_of p j
    unfolding plan_with
    above = above_at place (place_within p t)

    -- what holds of the old ones and of the branch holds of them
    each : (P : LabelledTransition → Type 0) → ((j : ℕ) → j < transition_count p → P (transition_of p j)) → P t
        → (j : ℕ) → j < suc (transition_count p) → P (transition_of (plan_with p t) j)
    each P old new j l =
        elim (dec_lt j place) [
          | yes q ↦ subst P (sym (below j q)) (old j (omega (arith, place_within p t)))
          | no q ↦ from j l (omega arith)
        ]
      where
        at_branch : (j : ℕ) → place ≡ j → P (transition_of (plan_with p t) j)
        at_branch j e = subst P (sym branch ∙ ap (transition_of (plan_with p t)) e) new

        from : (j : ℕ) → j < suc (transition_count p) → place ≤ j → P (transition_of (plan_with p t) j)
        from zero l h = at_branch 0 (omega arith)
        from (suc j) l h =
            elim (dec_lt j place) [
              | yes q ↦ at_branch (suc j) (omega arith)
              | no q ↦ subst P (sym (above j (omega arith))) (old j (omega arith))
            ]

    -- the transitions from the place on, and all of them
    moved : (count first : ℕ) → place ≤ first → transitions_from (plan_with p t) count (suc first) ≡ transitions_from p count first
    unfolding transitions_from
    moved zero first h = refl
    moved (suc count) first h = ap₂ ◌∷◌ (above first h) (moved count (suc first) (omega arith))

    inserted_from_lem : (size count first : ℕ) → first + size ≡ place → size ≤ count
        → transitions_from (plan_with p t) (suc count) first
        ≡ take size (transitions_from p count first) ++ t ∷ drop size (transitions_from p count first)
    unfolding transitions_from
    inserted_from_lem zero count first e h =
        let s : first ≡ place = omega arith in
        ap₂ ◌∷◌ (ap (transition_of (plan_with p t)) s ∙ branch) (moved count first (omega arith))
    inserted_from_lem (suc size) zero first e h = absurd (omega arith)
    inserted_from_lem (suc size) (suc count) first e h =
        ap₂ ◌∷◌ (below first (omega arith)) (inserted_from_lem size count (suc first) (omega arith) (omega arith))

    module _ (f : Fits p t) where
      pub one_more : transition_count (plan_with p t) ≡ suc (transition_count p)
      unfolding plan_with
      one_more = omega (arith, f.room_left)

      rises : (j : ℕ) → j < transition_count p → precedes (transition_of (plan_with p t) j) (transition_of (plan_with p t) (suc j)) ≡ true
      rises j l =
          elim (dec_lt j place) [
            | yes q ↦
                elim (dec_lt (suc j) place) [
                  | yes r ↦ by (below j q) (below (suc j) r) (rise_far p k j (suc j) (omega arith) (omega (arith, place_within p t)))
                  | no r ↦
                      let e : suc j ≡ place = omega arith in
                      by (below j q) (ap (transition_of (plan_with p t)) e ∙ branch) (before_place p t j q)
                ]
            | no q ↦ from j l (omega arith)
          ]
        where
          by : {u v u' v' : LabelledTransition} → u ≡ u' → v ≡ v' → precedes u' v' ≡ true → precedes u v ≡ true
          by d e r = subst₂ (λ (u v : LabelledTransition). precedes u v ≡ true) (sym d) (sym e) r

          branch_first : (j : ℕ) → j ≡ place → j < transition_count p
              → precedes (transition_of (plan_with p t) j) (transition_of (plan_with p t) (suc j)) ≡ true
          branch_first j e l =
              by (ap (transition_of (plan_with p t)) e ∙ branch) (above j (omega arith)) (after_place_holds p t k f.absent j (omega arith) l)

          from : (j : ℕ) → j < transition_count p → place ≤ j
              → precedes (transition_of (plan_with p t) j) (transition_of (plan_with p t) (suc j)) ≡ true
          from zero l h = branch_first 0 (omega arith) l
          from (suc j) l h =
              elim (dec_lt j place) [
                | yes q ↦ branch_first (suc j) (omega arith) l
                | no q ↦ by (above j (omega arith)) (above (suc j) h) (rise_far p k j (suc j) (omega arith) l)
              ]

      pub with_kept : WellFormedPlan (plan_with p t)
      with_kept =
          record {
            headed = omega (arith, with_length);
            some_states = omega (arith, states_same, k.some_states);
            few_states = omega (arith, states_same, k.few_states);
            few_transitions = omega (arith, one_more, f.room_left);
            exact = omega (arith, with_length, one_more, k.exact);
            origin_below = λ j l.
                each (λ (u : LabelledTransition). u.origin < state_count (plan_with p t))
                (λ i m. omega (arith, states_same, k.origin_below i m))
                (omega (arith, states_same, f.origin_below)) j (omega (arith, one_more));
            label_below = λ j l.
                each (λ (u : LabelledTransition). u.action < action_count (plan_with p t))
                (λ i m. omega (arith, actions_same, k.label_below i m))
                (omega (arith, actions_same, f.action_below)) j (omega (arith, one_more));
            target_below = λ j l.
                each (λ (u : LabelledTransition). u.target < state_count (plan_with p t))
                (λ i m. omega (arith, states_same, k.target_below i m))
                (omega (arith, states_same, f.target_below)) j (omega (arith, one_more));
            rising = λ j l.
                (precedes_iff (transition_of (plan_with p t) j) (transition_of (plan_with p t) (suc j))).0
                (rises j (omega (arith, one_more)));
          }

      pub with_inserted :
          (plan_of (plan_with p t)).transitions
          ≡ take (insertion_place p t) (plan_of p).transitions ++ t ∷ drop (insertion_place p t) (plan_of p).transitions
      with_inserted =
          ap (λ (n : ℕ). transitions_from (plan_with p t) n 0) one_more ∙
          inserted_from_lem place (transition_count p) 0 (omega arith) (place_within p t)

      pub with_exactly :
          (u : LabelledTransition)
          → Memᴰ u (plan_of (plan_with p t)).transitions ↔ (Memᴰ u (plan_of p).transitions ⊎ (u ≡ t))
      with_exactly u = (to, from)
        where
          to : Memᴰ u (plan_of (plan_with p t)).transitions → Memᴰ u (plan_of p).transitions ⊎ (u ≡ t)
          to m =
              let s = member_at (plan_with p t) u m in
              subst (λ (v : LabelledTransition). Memᴰ v (plan_of p).transitions ⊎ (v ≡ t)) (sym s.is)
              (each (λ (v : LabelledTransition). Memᴰ v (plan_of p).transitions ⊎ (v ≡ t))
              (λ j l. inl (at_member p j l)) (inr refl) s.at (omega (arith, one_more, s.before_end)))

          member : (j : ℕ) → j < suc (transition_count p) → transition_of (plan_with p t) j ≡ u
              → Memᴰ u (plan_of (plan_with p t)).transitions
          member j l e =
              subst (λ (v : LabelledTransition). Memᴰ v (plan_of (plan_with p t)).transitions) e
              (at_member (plan_with p t) j (omega (arith, one_more)))

          old : Stands p 0 (transition_count p) u → Memᴰ u (plan_of (plan_with p t)).transitions
          old s =
              elim (dec_lt s.at place) [
                | yes q ↦ member s.at (omega (arith, s.before_end)) (below s.at q ∙ sym s.is)
                | no q ↦ member (suc s.at) (omega (arith, s.before_end)) (above s.at (omega arith) ∙ sym s.is)
              ]

          from : Memᴰ u (plan_of p).transitions ⊎ (u ≡ t) → Memᴰ u (plan_of (plan_with p t)).transitions
          from (inl m) = old (member_at p u m)
          from (inr e) = member place (omega (arith, place_within p t)) (branch ∙ sym e)
