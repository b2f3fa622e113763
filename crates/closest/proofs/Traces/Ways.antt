-- The way that is written is one of the plan: its transitions lead from state 0 to the state.
use Prim.Native.Nat.{ℕ, zero, suc, ◌+◌, ◌*◌, ◌≤◌}
use mathlib.Core.Path.{◌≡◌, refl, sym, subst}
use mathlib.Core.List.{List, [], ◌∷◌, ◌++◌, Memᴰ}
use native.Mathlib.Omega.{arith}
use lib.ListN.{length, drop, length-append, length-drop}
use lib.Seq.{take_at, drop_at}
use Rattle.sheet.specs.Plan.{origin}
use Rattle.sheet.specs.TransitionSystem.{LabelledTransition, transition_of, plan_of}
use Rattle.sheet.proofs.TransitionSystem.{at_member}
use Rattle.graph.proofs.Looptest.Successors.{target_among}
use Rattle.closest.specs.Steps.{WayOf, stay, onward, Steps}
use Rattle.closest.specs.Tracing.{last_transition, way_to, way_bytes}
use Rattle.closest.specs.TraceCorrect.{Leads, arrived, next, WayWritten}
use Rattle.closest.proofs.Traces.Lasts.{last_below, last_leads}
use Rattle.closest.proofs.Traces.Backwards.{written}

pub bytes_length : (l : List LabelledTransition) → length (way_bytes l) ≡ 3 * length l
unfolding way_bytes
bytes_length [] = refl
bytes_length (x ∷ l) = omega (arith, bytes_length l)

module _ (p : List ℕ) where
  leads_on : {s t : ℕ} {l : List LabelledTransition} (x : LabelledTransition) → Leads p s l t → Memᴰ x (plan_of p).transitions → x.origin ≡ t
      → Leads p s (l ++ (x ∷ [])) x.target
  leads_on x arrived m e = next m e arrived
  leads_on x (next i f v) m e = next i f (leads_on x v m e)

  no_steps : {t : ℕ} → WayOf p 0 t → t ≡ 0
  no_steps stay = refl

  pub way_leads : (n t : ℕ) → Steps p t n → Leads p 0 (way_to p n t) t
  unfolding way_to
  way_leads zero t c = subst (Leads p 0 []) (sym (no_steps c.way)) arrived
  way_leads (suc n) t c =
      let i = last_transition p n t in
      let b = last_leads p t n c in
      subst (Leads p 0 (way_to p n (origin p i) ++ (transition_of p i ∷ []))) b.1
      (leads_on (transition_of p i) (way_leads n (origin p i) b.0) (at_member p i (last_below p t n c)) refl)

  pub way_length : (n t : ℕ) → length (way_to p n t) ≡ n
  unfolding way_to
  way_length zero t = refl
  way_length (suc n) t =
      let i = last_transition p n t in
      omega (arith, length-append (way_to p n (origin p i)) (transition_of p i ∷ []), way_length n (origin p i))

  -- transitions that lead from a state are steps on
  steps_on : {n s t : ℕ} {l : List LabelledTransition} → WayOf p n s → Leads p s l t → WayOf p (n + length l) t
  steps_on {n} {s} w arrived = let e : n ≡ n + 0 = omega arith in subst (λ (k : ℕ). WayOf p k s) e w
  steps_on {n} {s} {t} w (next {x = x} {l = l} m o v) =
      let e : suc n + length l ≡ n + suc (length l) = omega arith in
      subst (λ (k : ℕ). WayOf p k t) e (steps_on (onward w (target_among s m o)) v)

  none_shorter : {n t : ℕ} → Steps p t n → (l : List LabelledTransition) → Leads p 0 l t → n ≤ length l
  none_shorter c l v = let h = c.fewest (0 + length l) (steps_on stay v) in omega arith

  pub way_written : (n t : ℕ) → Steps p t n → (out : List ℕ) → 3 * n ≤ length out → WayWritten p t n out (written p n t out)
  way_written n t c out l =
      let way = way_to p n t in
      let size : length (way_bytes way) ≡ 3 * n = omega (arith, bytes_length way, way_length n t) in
      record {
        way = way;
        leads = way_leads n t c;
        count = way_length n t;
        shortest = none_shorter c;
        bytes = take_at (way_bytes way) (drop (3 * n) out) (3 * n) size;
        rest_kept = drop_at (way_bytes way) (drop (3 * n) out) (3 * n) size;
        size_kept = omega (arith, length-append (way_bytes way) (drop (3 * n) out), length-drop (3 * n) out);
      }
