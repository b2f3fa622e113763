-- The plan of a run and its bytes.
use Prim.Native.Nat.{ℕ, suc, ◌+◌, ◌*◌, ◌<◌, ◌≤◌}
use mathlib.Core.Path.{◌≡◌, refl, sym, ap, ap₂, subst, ◌∙◌}
use mathlib.Core.List.{List, [], ◌∷◌, Memᴰ}
use mathlib.Core.Logic.{inl}
use native.Mathlib.Omega.{arith}
use native.Mathlib.Decide.{dec_lt}
use lib.ListN.{length, drop, get_or}
use lib.Seq.{get_or-drop, drop-drop}
use Rattle.sheet.specs.Bytes.{byte}
use Rattle.sheet.specs.Plan.{transition_count, origin, label, target}
use Rattle.sheet.specs.TransitionSystem.{LabelledTransition, TransitionsInRange, transition_of, transitions_from, plan_of}
use Rattle.sheet.specs.WellFormed.{WellFormedPlan}
use Rattle.sheet.proofs.TransitionSystem.{member_at}
use Rattle.graph.specs.Loops.{Way, last, first, LoopReachable}
use Rattle.graph.specs.Successors.{successors}
use Rattle.graph.proofs.Looptest.Successors.{target_of_lem}
use Rattle.recordings.specs.Runs.{chain_from, chain, most_actions}
use Rattle.recordings.specs.RunAsSheet.{chain_bytes, chain_body}

pub chain_length : (i : ℕ) (run : List ℕ) → length (chain_bytes i run) ≡ 3 * length run
unfolding chain_bytes
chain_length i [] = refl
chain_length i (action ∷ run) = omega (arith, chain_length (suc i) run)

-- ---- transitions of a chain

-- a transition of a chain leads from a state to the next, by an action of the run
record Step (first end : ℕ) (run : List ℕ) (t : LabelledTransition) : Type 0 where
  from_first : first ≤ t.origin
  before_end : t.origin < end
  to_next : t.target ≡ suc t.origin
  recorded : Memᴰ t.action run

step_of : (i : ℕ) (run : List ℕ) (t : LabelledTransition) → Memᴰ t (chain_from i run) → Step i (length run + i) run t
unfolding chain_from
step_of i [] t m = elim m [ ]
step_of i (action ∷ run) t (Memᴰ.head e) =
    let o : t.origin ≡ i = ap (λ (u : LabelledTransition). u.origin) e in
    let g : t.target ≡ suc i = ap (λ (u : LabelledTransition). u.target) e in
    record {
      from_first = omega (arith, o);
      before_end = omega (arith, o);
      to_next = omega (arith, o, g);
      recorded = Memᴰ.head (ap (λ (u : LabelledTransition). u.action) e);
    }
step_of i (action ∷ run) t (Memᴰ.tail m) =
    let k = step_of (suc i) run t m in
    record { from_first = omega (arith, k.from_first); before_end = omega (arith, k.before_end); to_next = k.to_next; recorded = Memᴰ.tail k.recorded }

pub chain_in_range : (A : ℕ) (run : List ℕ) → ((action : ℕ) → Memᴰ action run → action < A) → TransitionsInRange (chain A run)
chain_in_range A run below =
    record {
      origin_below = λ t m. omega (arith, (step_of 0 run t m).before_end);
      action_below = λ t m. below t.action (step_of 0 run t m).recorded;
      target_below = λ t m. let k = step_of 0 run t m in omega (arith, k.before_end, k.to_next);
    }

-- ---- transitions of a body

-- transition i of the body leads from state i to the next, by an action of the run
record Link (p run : List ℕ) (i : ℕ) : Type 0 where
  origin_is : origin p i ≡ i
  target_is : target p i ≡ suc i
  recorded : Memᴰ (label p i) run

module _ (p : List ℕ) where
  -- where transition i of the body begins, it goes on with the bytes of a chain from state i
  read_back : (run : List ℕ) (i : ℕ) → drop (4 + 3 * i) p ≡ chain_bytes i run → transitions_from p (length run) i ≡ chain_from i run
  unfolding chain_bytes chain_from transitions_from
  read_back [] i q = refl
  read_back (action ∷ run) i q = ap₂ ◌∷◌ this (read_back run (suc i) next)
    where
      at : (j k : ℕ) → k ≡ 4 + 3 * i + j → byte p k ≡ byte (i ∷ action ∷ suc i ∷ chain_bytes (suc i) run) j
      at j k e = ap (byte p) e ∙ sym (get_or-drop (4 + 3 * i) p j 0) ∙ ap (λ (l : List ℕ). byte l j) q

      this : transition_of p i ≡ record { origin = i; action = action; target = suc i }
      this = λ k.
          record {
            origin = at 0 (4 + 3 * i) (omega arith) k;
            action = at 1 (5 + 3 * i) (omega arith) k;
            target = at 2 (6 + 3 * i) (omega arith) k;
          }

      next : drop (4 + 3 * suc i) p ≡ chain_bytes (suc i) run
      next =
          let e : 4 + 3 * suc i ≡ 4 + 3 * i + 3 = omega arith in
          ap (λ (n : ℕ). drop n p) e ∙ sym (drop-drop 3 (4 + 3 * i) p) ∙ ap (drop 3) q

  link_at : (run : List ℕ) (i j : ℕ) → transitions_from p (length run) i ≡ chain_from i run → i ≤ j → j < length run + i → Link p run j
  unfolding chain_from transitions_from
  link_at [] i j q h l = absurd (omega arith)
  link_at (action ∷ run) i j q h l =
      elim (dec_lt i j) [
        | yes m ↦
            let k = link_at run (suc i) j (ap (drop 1) q) m (omega arith) in
            record { origin_is = k.origin_is; target_is = k.target_is; recorded = Memᴰ.tail k.recorded }
        | no m ↦ let e : i ≡ j = omega arith in subst (Link p (action ∷ run)) e here
      ]
    where
      this : transition_of p i ≡ record { origin = i; action = action; target = suc i }
      this = ap (λ (ts : List LabelledTransition). get_or ts 0 (transition_of p i)) q

      here : Link p (action ∷ run) i
      here =
          record {
            origin_is = ap (λ (t : LabelledTransition). t.origin) this;
            target_is = ap (λ (t : LabelledTransition). t.target) this;
            recorded = Memᴰ.head (ap (λ (t : LabelledTransition). t.action) this);
          }

-- a way over steps that each lead higher leads higher
way_rises : {next : ℕ → List ℕ} → ((s t : ℕ) → Memᴰ t (next s) → s < t) → {s t : ℕ} → Way next s t → s < t
way_rises step (last {s = s} {t = t} m) = step s t m
way_rises step (first {s = s} {u = u} m w) = omega (arith, step s u m, way_rises step w)

-- ---- the body

module _ (A : ℕ) (run : List ℕ) (short : length run ≤ most_actions) where
  abbrev body : List ℕ
  body = chain_body A run

  pub body_length : length (chain_body A run) ≡ 4 + 3 * length run
  body_length = omega (arith, chain_length 0 run)

  count_is : transition_count body ≡ length run
  count_is = omega arith

  transitions_are : transitions_from body (length run) 0 ≡ chain_from 0 run
  transitions_are = read_back body run 0 refl

  link : (i : ℕ) → i < transition_count body → Link body run i
  link i l = link_at body run 0 i transitions_are (omega arith) (omega (arith, count_is))

  pub plan_is_chain : plan_of (chain_body A run) ≡ chain A run
  plan_is_chain =
      let e : (plan_of body).transitions ≡ chain_from 0 run = ap (λ (n : ℕ). transitions_from body n 0) count_is ∙ transitions_are in
      λ i. record { states = suc (length run); actions = A; transitions = e i }

  -- each transition leads to a higher state
  rises : (s t : ℕ) → Memᴰ t (successors body s) → s < t
  rises s t m =
      let w = target_of_lem s (plan_of body).transitions t m in
      let at = member_at body w.by w.among in
      let k = link at.at at.before_end in
      let o : w.by.origin ≡ origin body at.at = ap (λ (u : LabelledTransition). u.origin) at.is in
      let g : w.by.target ≡ target body at.at = ap (λ (u : LabelledTransition). u.target) at.is in
      omega (arith, o, g, w.origin_is, w.target_is, k.origin_is, k.target_is)

  pub chain_no_loop : (state : ℕ) → LoopReachable (successors (chain_body A run)) state → ⊥
  chain_no_loop state l = omega (arith, way_rises rises l.2)

  pub chain_kept : ((action : ℕ) → Memᴰ action run → action < A) → WellFormedPlan (chain_body A run)
  chain_kept below =
      record {
        headed = omega (arith, body_length);
        some_states = omega arith;
        few_states = omega (arith, short);
        few_transitions = omega (arith, count_is, short);
        exact = omega (arith, body_length, count_is);
        origin_below = λ i l. omega (arith, count_is, (link i l).origin_is);
        label_below = λ i l. below (label body i) (link i l).recorded;
        target_below = λ i l. omega (arith, count_is, (link i l).target_is);
        rising = λ i l. inl (omega (arith, (link i (omega arith)).origin_is, (link (suc i) l).origin_is));
      }
