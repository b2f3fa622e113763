-- What the search of a state leaves in a well-formed plan: `visit` by the steps of SearchSteps.antt, and `explored` from colours that are all 0.
use Prim.Native.Nat.{ℕ, zero, suc, ◌+◌, ◌-◌, ◌<◌, ◌≤◌}
use mathlib.Core.Bool.{Bool, true, false}
use mathlib.Core.List.{List}
use mathlib.Core.Logic.{inl, inr, ◌≢◌}
use mathlib.Core.Path.{◌≡◌, refl, sym, ap, subst, ◌∙◌}
use native.Mathlib.Omega.{arith}
use native.Mathlib.Nat.{not-suc-le-zero}
use native.Mathlib.Decide.{dec_lt, ℕ_discrete}
use lib.ListN.{get_or, set, replicate}
use Rattle.sheet.specs.Plan.{transition_count, origin, label, target}
use Rattle.sheet.specs.WellFormed.{WellFormedPlan}
use Rattle.graph.specs.declared.Index.{Index}
use Rattle.graph.specs.declared.searching.Colour.{Colour}
use Rattle.graph.specs.declared.searching.Colour.TheVariants.{Unseen, Open, Done}
use Rattle.graph.specs.Index.{Sized, with_action}
use Rattle.graph.specs.Loops.{Way, last, first, Reachable}
use Rattle.graph.specs.LoopTest.{loop_free}
use Rattle.graph.specs.Search.{held, first_by_halving, Outcome, outcome, found_none, index_left, colours_left, go_on, leave, scan, enter, visit, colour_count, explored}
use Rattle.graph.specs.Explored.{first_from, Indexed, Explored, ExploreRequires, SearchRight, SearchWithin}
use Rattle.graph.specs.Successors.{successors}
use Rattle.graph.specs.Internal.Searching.{colour_number, unseen_states, Coloured, Searching, Searched, SearchedBy}
use Rattle.graph.proofs.Search.Outgoing.{still_from, no_longer_from, successor_stands}
use Rattle.graph.proofs.Search.Halving.{held_all, halving_first}
use Rattle.graph.proofs.Search.Colouring.{colour_discrete, left_unseen, none_coloured, all_unseen}
use Rattle.graph.proofs.Search.ScanSteps.{scan_none, scan_other, scan_done, scan_target, visit_open, visit_new}
use Rattle.graph.proofs.Search.Partway.{Partway}
use Rattle.graph.proofs.Search.SearchSteps.{met_open, fewer, begun, partway_start, target_asked, target_done, loop_below, partway_next, all_passed}

-- ---- the search of a state

-- what a search f states deep leaves
abbrev Right : List ℕ → ℕ → Type 0
Right p f =
    (s : ℕ) (index : Index) (colours : List Colour) → Searching p index colours s → unseen_states colours < f
    → SearchedBy p index colours s (visit p f s index colours)

module _
    (p : List ℕ) (f : ℕ) (ih : Right p f) (s : ℕ) (index : Index) (before : List Colour)
    (asked : Searching p index before s) (unseen_yet : get_or before s Unseen ≡ Unseen) (deep : unseen_states before ≤ f)
  where
    kept : WellFormedPlan p
    kept = asked.explores.kept

    abbrev By : Outcome → Type 0
    By = SearchedBy p index before s

    abbrev rec : ℕ → Index → List Colour → Outcome
    rec t x c = visit p f t x c

    abbrev rest : ℕ → Index → List Colour → Outcome
    rest i x c = scan p rec s (held p - i) i x c

    abbrev Scanned : ℕ → Index → List Colour → Type 0
    Scanned i x c = Partway p (begun asked unseen_yet) (set before s Open) x c s i

    abbrev noting : ℕ → Index → Index
    noting i x = with_action x (label p i)

    -- what the rest leaves
    abbrev Goes : ℕ → Type 0
    Goes i = (x : Index) (c : List Colour) → Scanned i x c → By (rest i x c)

    -- the transitions of s end at i
    left : (i : ℕ) (x : Index) (c : List Colour) → Scanned i x c → (i < transition_count p → origin p i ≡ s → ⊥)
        → rest i x c ≡ leave s i x c → By (rest i x c)
    left i x c w none e =
        let past : first_from p (s + 1) ≤ i = no_longer_from p kept s i w.after_first none in
        subst By (sym e) (all_passed asked unseen_yet w (omega (arith, w.before_end)))

    scanned : (n i : ℕ) → held p ≤ i + n → Goes i
    scanned zero i m x c w =
        left i x c w (λ h e. omega (arith, held_all p kept)) (scan_none p rec s i x c (omega arith))
    scanned (suc n) i m x c w = go (scanned n (i + 1) (omega arith))
      where
        -- transition i is one of the state's
        at : i < held p → origin p i ≡ s → Goes (i + 1) → By (rest i x c)
        at h e on =
            elim (colour_discrete (get_or c (target p i) Unseen) Done) [
              | yes d ↦
                  subst By (sym (scan_done p rec s i x c h e d))
                  (on (noting i x) c (partway_next asked unseen_yet w more (target_done asked unseen_yet w more d)))
              | no d ↦
                  subst By (sym (scan_target p rec s i x c h e d))
                  (after (rec (target p i) (noting i x) c) (ih (target p i) (noting i x) c (target_asked asked unseen_yet w more d) less))
            ]
          where
            more : i < first_from p (s + 1)
            more = still_from p kept s i (omega (arith, held_all p kept)) e

            less : unseen_states c < f
            less = omega (arith, w.none_forgotten, fewer asked unseen_yet)

            after : (o : Outcome) → SearchedBy p (noting i x) c (target p i) o → By (go_on (λ y d. rest (i + 1) y d) o)
            after (outcome true y d) got = on y d (partway_next asked unseen_yet w more got)
            after (outcome false y d) got = loop_below asked unseen_yet w more got

        go : Goes (i + 1) → By (rest i x c)
        go on =
            elim (dec_lt i (held p)) [
              | no h ↦ left i x c w (λ l e. omega (arith, held_all p kept)) (scan_none p rec s i x c (omega arith))
              | yes h ↦
                  elim (ℕ_discrete (origin p i) s) [
                    | yes e ↦ at h e on
                    | no e ↦ left i x c w (λ l q. e q) (scan_other p rec s i x c h e)
                  ]
            ]

    entered : By (enter p rec s (first_by_halving p s) index before)
    entered =
        subst (λ (k : ℕ). By (enter p rec s k index before)) (sym (halving_first p kept s))
        (scanned (held p) (first_from p s) (omega arith) (begun asked unseen_yet) (set before s Open) (partway_start asked unseen_yet))

pub visit_right : (p : List ℕ) (f : ℕ) → Right p f
visit_right p zero s index before asked deep = absurd (not-suc-le-zero deep)
visit_right p (suc f) s index before asked deep = go (visit_right p f)
  where
    go : Right p f → SearchedBy p index before s (visit p (suc f) s index before)
    go ih =
        elim (colour_discrete (get_or before s Unseen) Open) [
          | yes e ↦ subst (SearchedBy p index before s) (sym (visit_open p f s index before e)) (met_open asked e)
          | no e ↦
              let new : get_or before s Unseen ≡ Unseen = left_unseen (get_or before s Unseen) asked.not_done e in
              subst (SearchedBy p index before s) (sym (visit_new p f s index before new)) (entered p f ih s index before asked new (omega arith))
        ]

-- ---- from colours that are all 0

search_starts : (p : List ℕ) (index : Index) (s : ℕ) → ExploreRequires p index s → Searching p index (replicate colour_count Unseen) s
search_starts p index s given = record {
  explores = given;
  not_done = λ e. omega (arith, ap colour_number (sym (none_coloured colour_count s) ∙ e));
  room = refl;
  coloured = record { done = λ u h. absurd (omega (arith, ap colour_number (sym (none_coloured colour_count u) ∙ h))) };
  open_leads = λ u e. absurd (omega (arith, ap colour_number (sym (none_coloured colour_count u) ∙ e)));
}

explored_right : (p : List ℕ) (index : Index) (s : ℕ) → ExploreRequires p index s → SearchedBy p index (replicate colour_count Unseen) s (explored p index s)
unfolding explored
explored_right p index s given = visit_right p (colour_count + 1) s index (replicate colour_count Unseen) (search_starts p index s given) (omega (arith, all_unseen colour_count))

module _ (p : List ℕ) (kept : WellFormedPlan p) (index : Index) (colours : List Colour) (coloured : Coloured p index colours) where
  -- a way from a done state leads to done states
  way_done : {u t : ℕ} → get_or colours u Unseen ≡ Done → Way (successors p) u t → get_or colours t Unseen ≡ Done
  way_done {u} {t} h (last m) =
      let w = successor_stands p kept u t m in
      subst (λ (v : ℕ). get_or colours v Unseen ≡ Done) w.3 ((coloured.done u h).leads_on w.0 w.1 w.2)
  way_done {u} h (first {u = v} m w) =
      let x = successor_stands p kept u v m in
      way_done (subst (λ (z : ℕ). get_or colours z Unseen ≡ Done) x.3 ((coloured.done u h).leads_on x.0 x.1 x.2)) w

  pub all_indexed : (s : ℕ) → get_or colours s Unseen ≡ Done → (u : ℕ) → Reachable (successors p) s u → Indexed p index u
  all_indexed s h u (inl e) = (coloured.done u (subst (λ (v : ℕ). get_or colours v Unseen ≡ Done) (sym e) h)).indexed
  all_indexed s h u (inr w) = (coloured.done u (way_done h w)).indexed

search_ends : (p : List ℕ) → WellFormedPlan p → (s : ℕ) (index : Index) → Sized index → (before : List Colour) (index' : Index) (after : List Colour) (r : Bool)
    → Searched p index before index' after s r → Explored p index index' s r
search_ends p kept s index sized before index' after r got = record {
  answer = go r got;
  size = λ e. (got.finished e).retains.size sized;
  reached = λ e. all_indexed p kept index' after (got.finished e).coloured s (got.finished e).state_done;
}
  where
    go : (r : Bool) → Searched p index before index' after s r → r ≡ loop_free p s
    go true got = let f = got.finished refl in sym (f.coloured.done s f.state_done).is_settled
    go false got = sym (got.looped refl)

pub search_right : SearchRight
search_right p index s given = go (explored p index s) (explored_right p index s given)
  where
    go : (o : Outcome) → SearchedBy p index (replicate colour_count Unseen) s o → Explored p index (index_left o) s (found_none o)
    go (outcome r x c) got = search_ends p given.kept s index given.sized (replicate colour_count Unseen) x c r got

pub search_within : SearchWithin
search_within p index s given u n = go (explored p index s) (explored_right p index s given) n
  where
    go : (o : Outcome) → SearchedBy p index (replicate colour_count Unseen) s o → get_or (colours_left o) u Unseen ≢ Unseen → Reachable (successors p) s u
    go (outcome r x c) got n = got.within u (λ e. n (e ∙ none_coloured colour_count u))

-- what the two equations of `explore` say of a well-formed plan
pub explore_right : (p : List ℕ) (index index' : Index) (s : ℕ) (r : Bool) → ExploreRequires p index s
    → r ≡ found_none (explored p index s) → index' ≡ index_left (explored p index s) → Explored p index index' s r
explore_right p index index' s r given e f = rw (e, f) (search_right p index s given)
