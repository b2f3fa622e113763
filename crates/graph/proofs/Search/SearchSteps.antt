-- The steps of a search in a well-formed plan, and what it leaves.
use Prim.Native.Nat.{ℕ, ◌+◌, ◌<◌}
use mathlib.Core.Bool.{true, false, true≢false}
use mathlib.Core.List.{List, Memᴰ}
use mathlib.Core.Logic.{◌⊎◌, inl, inr, ◌≢◌}
use mathlib.Core.Path.{◌≡◌, refl, sym, ap, subst, ◌∙◌}
use native.Mathlib.Omega.{arith}
use native.Mathlib.Decide.{dec_lt}
use lib.ListN.{length, get_or, set, length-set}
use lib.Seq.{get_or-set_same}
use Rattle.sheet.specs.Plan.{state_count, transition_count, label, target}
use Rattle.sheet.specs.WellFormed.{WellFormedPlan}
use Rattle.graph.specs.declared.Index.{Index}
use Rattle.graph.specs.declared.searching.Colour.{Colour}
use Rattle.graph.specs.declared.searching.Colour.TheVariants.{Unseen, Open, Done}
use Rattle.graph.specs.Index.{Sized, with_first, with_action}
use Rattle.graph.specs.LoopTest.{settled}
use Rattle.graph.specs.Loops.{Way, last, Reachable}
use Rattle.graph.specs.Successors.{successors}
use Rattle.graph.specs.Explored.{first_from}
use Rattle.graph.specs.Internal.Searching.{colour_number, unseen_states, DoneState, Coloured, Searching, Retains, Finished, Searched}
use Rattle.rows.proofs.Tables.Among.{false_if}
use Rattle.graph.proofs.Looptest.Settled.{settled_no_loop, way_on, onward}
use Rattle.graph.proofs.Looptest.Height.{successor_settled}
use Rattle.graph.proofs.Search.Outgoing.{is_outgoing, first_order, successor_at, settled_by_targets}
use Rattle.graph.proofs.Search.Retaining.{retains_self, retains_then, retains_first, retains_note, coloured_on}
use Rattle.graph.proofs.Search.Partway.{Partway, done_already}
use Rattle.graph.proofs.Search.Colouring.{colour_discrete, open_seen, done_seen, unseen_set, unseen_falls, stored, recoloured, coloured_set, opened_keeps, closed_keeps}

module _ {p : List ℕ} {index : Index} {before : List Colour} {s : ℕ} (asked : Searching p index before s) where
  kept : WellFormedPlan p
  kept = asked.explores.kept

  below : s < state_count p
  below = asked.explores.state_below

  inside : s < length before
  inside = omega (arith, below, asked.room, kept.few_states)

  -- a state met while it is open lies on a loop
  pub met_open : get_or before s Unseen ≡ Open → Searched p index before index before s false
  met_open e = record {
    looped = λ q. false_if _ (λ h. settled_no_loop (successors p) (state_count p) s h (asked.open_leads s e));
    finished = λ q. absurd (true≢false (sym q));
    within = λ u n. absurd (n refl);
  }

  -- the search of s begins: it has stored where the transitions begin
  module _ (unseen_yet : get_or before s Unseen ≡ Unseen) where
    pub fewer : unseen_states (set before s Open) < unseen_states before
    fewer = unseen_falls before s inside unseen_yet

    abbrev pub begun : Index
    begun = with_first index s (first_from p s)

    begun_retains : Retains p index begun
    begun_retains = retains_first kept index asked.explores.sized s (first_from p s) (omega (arith, below)) refl

    begun_first : get_or begun.firsts s 0 ≡ first_from p s
    begun_first = get_or-set_same index.firsts s (first_from p s) 0 (omega (arith, asked.explores.sized, below, kept.few_states))

    pub partway_start : Partway p begun (set before s Open) begun (set before s Open) s (first_from p s)
    partway_start = record {
      after_first = omega arith;
      before_end = first_order p kept s;
      same_length = refl;
      coloured =
          coloured_set before s Open inside
          (coloured_on begun_retains asked.coloured)
          (opened_keeps before s Open inside unseen_yet)
          (λ h. absurd (omega (arith, ap colour_number h)));
      none_opened = λ u e. e;
      none_forgotten = omega arith;
      done_kept = λ u e. e;
      retains = retains_self;
      passed = λ k h l. absurd (omega arith);
      noted = λ k h l. absurd (omega arith);
      within = λ u n. absurd (n refl);
    }

    module _ {index' : Index} {colours : List Colour} {i : ℕ} (partway : Partway p begun (set before s Open) index' colours s i) where
      -- what is open is s, or was open before
      was_open : (u : ℕ) → get_or colours u Unseen ≡ Open → (u ≡ s) ⊎ (get_or before u Unseen ≡ Open)
      was_open u e = go (recoloured before s Open inside u Open (partway.none_opened u e))
        where
          go : ((u ≡ s) × (◌≡◌ {A = Colour} Open Open)) ⊎ ((u ≢ s) × (get_or before u Unseen ≡ Open)) → (u ≡ s) ⊎ (get_or before u Unseen ≡ Open)
          go (inl q) = inl q.0
          go (inr q) = inr q.1

      as_long : length colours ≡ length before
      as_long = partway.same_length ∙ simp length-set

      sized : Sized index'
      sized = partway.retains.size (begun_retains.size asked.explores.sized)

      -- what has changed since s was met can be reached from s, if what has changed since transition i can
      reached : (after : List Colour) → ((u : ℕ) → get_or after u Unseen ≢ get_or colours u Unseen → Reachable (successors p) s u)
          → (u : ℕ) → get_or after u Unseen ≢ get_or before u Unseen → Reachable (successors p) s u
      reached after since u n =
          elim (colour_discrete (get_or after u Unseen) (get_or colours u Unseen)) [
            | yes e ↦
                elim (colour_discrete (get_or colours u Unseen) (get_or (set before s Open) u Unseen)) [
                  | yes f ↦ inl (stored before s Open u (λ g. n (e ∙ (f ∙ g))))
                  | no f ↦ inr (partway.within u f)
                ]
            | no e ↦ since u e
          ]

      -- the search goes on at the target of transition i, its action noted
      module _ (more : i < first_from p (s + 1)) where
        abbrev pub noted : Index
        noted = with_action index' (label p i)

        there : i < transition_count p
        there = (is_outgoing p kept s i partway.after_first more).0

        follows : Memᴰ (target p i) (successors p s)
        follows = successor_at p kept s i partway.after_first more

        label_small : label p i < 256
        label_small = omega (arith, kept.label_below i there, asked.explores.few_actions)

        noting : Retains p index' noted
        noting = retains_note kept index' sized (label p i) label_small

        note : get_or noted.actions (label p i) false ≡ true
        note = get_or-set_same index'.actions (label p i) true false (omega (arith, sized, label_small))

        noted_coloured : Coloured p noted colours
        noted_coloured = coloured_on noting partway.coloured

        pub target_asked : get_or colours (target p i) Unseen ≢ Done → Searching p noted colours (target p i)
        target_asked h = record {
          explores = record {
            kept = kept;
            few_actions = asked.explores.few_actions;
            sized = noting.size sized;
            state_below = kept.target_below i there;
          };
          not_done = h;
          room = as_long ∙ asked.room;
          coloured = noted_coloured;
          open_leads = λ u e. go u (was_open u e);
        }
          where
            go : (u : ℕ) → (u ≡ s) ⊎ (get_or before u Unseen ≡ Open) → Way (successors p) u (target p i)
            go u (inl q) = subst (λ (v : ℕ). Way (successors p) v (target p i)) (sym q) (last follows)
            go u (inr q) = way_on (asked.open_leads u q) follows

        -- it is done: there is nothing to search
        pub target_done : get_or colours (target p i) Unseen ≡ Done → Searched p noted colours noted colours (target p i) true
        target_done h = done_already (target p i) noted_coloured h

        module _ {index'' : Index} {after : List Colour} where
          -- it met a loop: it can be reached from s too
          pub loop_below : Searched p noted colours index'' after (target p i) false → Searched p index before index'' after s false
          loop_below got = record {
            looped = λ q. false_if _ (λ h. unsettled (successor_settled (successors p) (state_count p) s (target p i) h follows));
            finished = λ q. absurd (true≢false (sym q));
            within = reached after (λ u n. inr (onward follows (got.within u n)));
          }
            where
              unsettled : settled (successors p) (state_count p) (target p i) ≡ true → ⊥
              unsettled e = true≢false (sym e ∙ got.looped refl)

          pub partway_next : Searched p noted colours index'' after (target p i) true → Partway p begun (set before s Open) index'' after s (i + 1)
          partway_next got = record {
            after_first = omega (arith, partway.after_first);
            before_end = omega (arith, more);
            same_length = f.same_length ∙ partway.same_length;
            coloured = f.coloured;
            none_opened = λ u q. partway.none_opened u (f.none_opened u q);
            none_forgotten = omega (arith, f.none_forgotten, partway.none_forgotten);
            done_kept = λ u q. f.done_kept u (partway.done_kept u q);
            retains = retains_then partway.retains (retains_then noting f.retains);
            passed = λ k a b. elim (dec_lt k i) [
              | yes q ↦ f.done_kept (target p k) (partway.passed k a q)
              | no q ↦ let g : i ≡ k = omega arith in subst (λ (v : ℕ). get_or after (target p v) Unseen ≡ Done) g f.state_done
            ];
            noted = λ k a b. elim (dec_lt k i) [
              | yes q ↦ f.retains.notes_kept (label p k) (noting.notes_kept (label p k) (partway.noted k a q))
              | no q ↦
                  let g : i ≡ k = omega arith in
                  subst (λ (v : ℕ). get_or index''.actions (label p v) false ≡ true) g (f.retains.notes_kept (label p i) note)
            ];
            within = λ u n. elim (colour_discrete (get_or after u Unseen) (get_or colours u Unseen)) [
              | yes q ↦ partway.within u (λ g. n (q ∙ g))
              | no q ↦ onward follows (got.within u q)
            ];
          }
            where
              f : Finished p noted colours index'' after (target p i)
              f = got.finished refl

      -- all transitions of s are passed, and s is done
      module _ (e : i ≡ first_from p (s + 1)) where
        abbrev ended : Index
        ended = with_first index' (s + 1) i

        room : s < length colours
        room = omega (arith, inside, as_long)

        ending : Retains p index' ended
        ending = retains_first kept index' sized (s + 1) i (omega (arith, below)) e

        keeps : (v : ℕ) → get_or colours v Unseen ≡ Done → get_or (set colours s Done) v Unseen ≡ Done
        keeps = closed_keeps colours s Done room refl

        done : DoneState p ended (set colours s Done) s
        done = record {
          is_settled =
              settled_by_targets p kept s below
              (λ k a b. (partway.coloured.done (target p k) (partway.passed k a (omega (arith, e)))).is_settled);
          indexed = record {
            state_below = below;
            begins = (retains_then partway.retains ending).firsts_kept s (omega (arith, below)) begun_first;
            ends = get_or-set_same index'.firsts (s + 1) i 0 (omega (arith, sized, below, kept.few_states)) ∙ e;
            noted = λ k a b. ending.notes_kept (label p k) (partway.noted k a (omega (arith, e)));
          };
          leads_on = λ k a b. keeps (target p k) (partway.passed k a (omega (arith, e)));
        }

        before_too : (u : ℕ) → u ≢ s → (u ≡ s) ⊎ (get_or before u Unseen ≡ Open) → get_or before u Unseen ≡ Open
        before_too u n (inl q) = absurd (n q)
        before_too u n (inr q) = q

        closed : (u : ℕ) → ((u ≡ s) × (◌≡◌ {A = Colour} Open Done)) ⊎ ((u ≢ s) × (get_or colours u Unseen ≡ Open)) → get_or before u Unseen ≡ Open
        closed u (inl q) = absurd (omega (arith, ap colour_number q.1))
        closed u (inr q) = before_too u q.0 (was_open u q.1)

        pub all_passed : Searched p index before ended (set colours s Done) s true
        all_passed = record {
          looped = λ q. absurd (true≢false q);
          finished = λ q. record {
            state_done = get_or-set_same colours s Done Unseen room;
            same_length = simp length-set as_long;
            coloured = coloured_set colours s Done room (coloured_on ending partway.coloured) keeps (λ q. done);
            none_opened = λ u e. closed u (recoloured colours s Done room u Open e);
            none_forgotten = omega (arith, unseen_set colours s Done done_seen, partway.none_forgotten, unseen_set before s Open open_seen);
            done_kept = λ u h. keeps u (partway.done_kept u (opened_keeps before s Open inside unseen_yet u h));
            retains = retains_then (retains_then begun_retains partway.retains) ending;
          };
          within = reached (set colours s Done) (λ u n. inl (stored colours s Done u n));
        }
