-- A run is a path of transitions that the pattern matches: the paths of a run's parts append to one path, and a path that a pattern matches
-- splits into paths for its parts.
use Prim.Native.Nat.{ℕ}
use mathlib.Core.Path.{refl, subst}
use mathlib.Core.List.{List, [], ◌∷◌, ◌++◌}
use Rattle.sheet.specs.TransitionSystem.{LabelledTransition, Plan}
use Rattle.patterns.specs.Patterns.{Pattern}
use Rattle.patterns.specs.Runs.{Run, step, then, first, second, none, more, MatchingPath, RunsArePaths}
use Rattle.patterns.specs.Runs.{TransitionPath, empty, onward, Matches, single, split, by_first, by_second, zero_times, more_times}

module _ {P : Plan} where
  path_append : {front rest : List LabelledTransition} {s m u : ℕ} → TransitionPath P front s m → TransitionPath P rest m u → TransitionPath P (front ++ rest) s u
  path_append empty q = q
  path_append (onward t m o p) q = onward t m o (path_append p q)

  -- the front of a path ends at some state, and the rest begins there
  path_split : (front : List LabelledTransition) {rest : List LabelledTransition} {s u : ℕ} → TransitionPath P (front ++ rest) s u
      → (m : ℕ) × TransitionPath P front s m × TransitionPath P rest m u
  path_split [] p = (_, empty, p)
  path_split (_ ∷ front) (onward t m o p) = let h = path_split front p in (h.0, onward t m o h.1, h.2)

  module _ {a : List ℕ} where
    -- a path for each of two parts is one for the whole, if the whole matches one part after the other
    joined : {R Q T : Pattern} {s m u : ℕ}
        → ((front rest : List LabelledTransition) → Matches P a R front → Matches P a Q rest → Matches P a T (front ++ rest))
        → MatchingPath P a R s m → MatchingPath P a Q m u → MatchingPath P a T s u
    joined both i j = record {
      path = i.path ++ j.path;
      leads = path_append i.leads j.leads;
      matches = both i.path j.path i.matches j.matches;
    }

    path_of : {R : Pattern} {s u : ℕ} → Run P a R s u → MatchingPath P a R s u
    path_of (step t m o k e) = record { path = t ∷ []; leads = onward t m o (subst (TransitionPath P [] t.target) e empty); matches = single t k }
    path_of (then p q) = joined (λ front rest. split front rest refl) (path_of p) (path_of q)
    path_of (first p) = let i = path_of p in record { path = i.path; leads = i.leads; matches = by_first i.matches }
    path_of (second p) = let i = path_of p in record { path = i.path; leads = i.leads; matches = by_second i.matches }
    path_of none = record { path = []; leads = empty; matches = zero_times }
    path_of (more p q) = joined (λ front rest. more_times front rest refl) (path_of p) (path_of q)

    run_of : {R : Pattern} {ts : List LabelledTransition} {s u : ℕ} → Matches P a R ts → TransitionPath P ts s u → Run P a R s u
    run_of (single t k) (onward _ m o empty) = step t m o k refl
    run_of (split front rest e m n) p = let h = path_split front (rw e at p) in then (run_of m h.1) (run_of n h.2)
    run_of (by_first m) p = first (run_of m p)
    run_of (by_second m) p = second (run_of m p)
    run_of zero_times empty = none
    run_of (more_times front rest e m n) p = let h = path_split front (rw e at p) in more (run_of m h.1) (run_of n h.2)

pub runs_are_paths : RunsArePaths
runs_are_paths P a R s u = (path_of, λ i. run_of i.matches i.leads)
