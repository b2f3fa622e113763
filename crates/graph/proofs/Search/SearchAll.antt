-- What the search from several states leaves in a well-formed plan: `sweep` by what each of its searches leaves.
use Prim.Native.Nat.{ℕ, zero, suc, ◌+◌, ◌<◌, ◌≤◌}
use mathlib.Core.Bool.{Bool, true, false, true≢false}
use mathlib.Core.List.{List}
use mathlib.Core.Logic.{◌≢◌}
use mathlib.Core.Path.{◌≡◌, refl, sym, ap, subst, ◌∙◌}
use native.Mathlib.Omega.{arith}
use native.Mathlib.Decide.{dec_lt, ℕ_discrete}
use lib.ListN.{length, get_or, replicate}
use Rattle.graph.specs.declared.Index.{Index}
use Rattle.graph.specs.declared.searching.Colour.{Colour}
use Rattle.graph.specs.declared.searching.Colour.TheVariants.{Unseen, Open, Done}
use Rattle.graph.specs.LoopTest.{loop_free}
use Rattle.graph.specs.Search.{Outcome, outcome, found_none, index_left, go_on, visit, colour_count, most_states, sweep, explored_all}
use Rattle.graph.specs.Explored.{StartsFrom, ExploredAll, ExploreAllRequires, SearchAllRight}
use Rattle.graph.specs.Internal.Searching.{colour_number, unseen_states, Coloured, Searching, Retains, Finished, SearchedBy}
use Rattle.graph.proofs.Search.Retaining.{retains_self, retains_then}
use Rattle.graph.proofs.Search.Colouring.{colour_discrete, none_coloured, unseen_most}
use Rattle.graph.proofs.Search.Partway.{done_already}
use Rattle.graph.proofs.Search.SweepSteps.{sweep_none, sweep_past, sweep_done, sweep_start}
use Rattle.graph.proofs.Search.SearchRight.{visit_right, all_indexed}

-- the states below s are passed: those to start from are done. Between two searches no state is open
record PassedTo (p : List ℕ) (index₀ : Index) (starts : List ℕ) (index : Index) (colours : List Colour) (s : ℕ) : Type 0 where
  room : length colours ≡ colour_count
  coloured : Coloured p index colours
  none_open : (u : ℕ) → get_or colours u Unseen ≡ Open → ⊥
  started_done : (u : ℕ) → u < s → StartsFrom starts u → get_or colours u Unseen ≡ Done
  retains : Retains p index₀ index

passed_none : (p : List ℕ) (index : Index) (starts : List ℕ) → PassedTo p index starts index (replicate colour_count Unseen) 0
passed_none p index starts = record {
  room = refl;
  coloured = record { done = λ u h. absurd (omega (arith, ap colour_number (sym (none_coloured colour_count u) ∙ h))) };
  none_open = λ u e. omega (arith, ap colour_number (sym (none_coloured colour_count u) ∙ e));
  started_done = λ u h a. absurd (omega arith);
  retains = retains_self;
}

module _ {p : List ℕ} {index₀ : Index} {starts : List ℕ} {index : Index} {colours : List Colour} {s : ℕ} (w : PassedTo p index₀ starts index colours s) where
  pass_other : get_or starts s 0 ≡ 0 → PassedTo p index₀ starts index colours (s + 1)
  pass_other e = record {
    room = w.room;
    coloured = w.coloured;
    none_open = w.none_open;
    started_done = λ u h a. elim (dec_lt u s) [
      | yes l ↦ w.started_done u l a
      | no l ↦ let q : u ≡ s = omega arith in absurd (a (ap (λ (v : ℕ). get_or starts v 0) q ∙ e))
    ];
    retains = w.retains;
  }

  pass_done : {index' : Index} {after : List Colour} → Finished p index colours index' after s → PassedTo p index₀ starts index' after (s + 1)
  pass_done {index'} {after} f = record {
    room = f.same_length ∙ w.room;
    coloured = f.coloured;
    none_open = λ u e. w.none_open u (f.none_opened u e);
    started_done = λ u h a. elim (dec_lt u s) [
      | yes l ↦ f.done_kept u (w.started_done u l a)
      | no l ↦ let q : s ≡ u = omega arith in subst (λ (v : ℕ). get_or after v Unseen ≡ Done) q f.state_done
    ];
    retains = retains_then w.retains f.retains;
  }

module _ (p : List ℕ) (index₀ : Index) (starts : List ℕ) (given : ExploreAllRequires p index₀ starts) where
  abbrev AllBy : Outcome → Type 0
  AllBy o = ExploredAll p index₀ (index_left o) starts (found_none o)

  -- a state to start from is below 128, so it is passed
  all_passed_right : (index : Index) (colours : List Colour) (s : ℕ) → most_states ≤ s → PassedTo p index₀ starts index colours s → AllBy (outcome true index colours)
  all_passed_right index colours s h w = record {
    free = λ e u a. (w.coloured.done u (all_done u a)).is_settled;
    looped = λ e. absurd (true≢false e);
    size = λ e. w.retains.size given.sized;
    reached = λ e u a. all_indexed p given.kept index colours w.coloured u (all_done u a);
  }
    where
      all_done : (u : ℕ) → StartsFrom starts u → get_or colours u Unseen ≡ Done
      all_done u a = w.started_done u (omega (arith, given.starts_below u a, given.kept.few_states)) a

  met_loop : (index : Index) (colours : List Colour) (s : ℕ) → StartsFrom starts s → loop_free p s ≡ false → AllBy (outcome false index colours)
  met_loop index colours s a e = record {
    free = λ q. absurd (true≢false (sym q));
    looped = λ q. (s, a, e);
    size = λ q. absurd (true≢false (sym q));
    reached = λ q. absurd (true≢false (sym q));
  }

  -- what the sweep of n states from s on leaves
  abbrev Sweeps : ℕ → ℕ → Type 0
  Sweeps n s = (index : Index) (colours : List Colour) → PassedTo p index₀ starts index colours s → AllBy (sweep p starts n s index colours)

  swept_right : (n s : ℕ) → most_states ≤ s + n → Sweeps n s
  swept_right zero s m index colours w =
      subst AllBy (sym (sweep_none p starts s index colours)) (all_passed_right index colours s (omega arith) w)
  swept_right (suc n) s m index colours w = go (swept_right n (s + 1) (omega arith))
    where
      asked : StartsFrom starts s → get_or colours s Unseen ≢ Done → Searching p index colours s
      asked a d = record {
        explores = record {
          kept = given.kept;
          few_actions = given.few_actions;
          sized = w.retains.size given.sized;
          state_below = given.starts_below s a;
        };
        not_done = d;
        room = w.room;
        coloured = w.coloured;
        open_leads = λ u e. absurd (w.none_open u e);
      }

      after : Sweeps n (s + 1) → StartsFrom starts s → (o : Outcome) → SearchedBy p index colours s o → AllBy (go_on (λ x c. sweep p starts n (s + 1) x c) o)
      after on a (outcome true x c) got = on x c (pass_done w (got.finished refl))
      after on a (outcome false x c) got = met_loop x c s a (got.looped refl)

      go : Sweeps n (s + 1) → AllBy (sweep p starts (suc n) s index colours)
      go on =
          elim (ℕ_discrete (get_or starts s 0) 0) [
            | yes e ↦ subst AllBy (sym (sweep_past p starts n s index colours e)) (on index colours (pass_other w e))
            | no a ↦
                elim (colour_discrete (get_or colours s Unseen) Done) [
                  | yes d ↦
                      subst AllBy (sym (sweep_done p starts n s index colours a d))
                      (on index colours (pass_done w ((done_already s w.coloured d).finished refl)))
                  | no d ↦
                      let deep : unseen_states colours < colour_count + 1 = omega (arith, unseen_most colours, w.room) in
                      subst AllBy (sym (sweep_start p starts n s index colours a d))
                      (after on a (visit p (colour_count + 1) s index colours)
                      (visit_right p (colour_count + 1) s index colours (asked a d) deep))
                ]
          ]

pub search_all_right : SearchAllRight
unfolding explored_all
search_all_right p index starts given =
    swept_right p index starts given most_states 0 (omega arith) index (replicate colour_count Unseen) (passed_none p index starts)

-- what the two equations of `explore_all` say of a well-formed plan
pub explore_all_right : (p : List ℕ) (index index' : Index) (starts : List ℕ) (r : Bool) → ExploreAllRequires p index starts
    → r ≡ found_none (explored_all p index starts) → index' ≡ index_left (explored_all p index starts) → ExploredAll p index index' starts r
explore_all_right p index index' starts r given e f = rw (e, f) (search_all_right p index starts given)
