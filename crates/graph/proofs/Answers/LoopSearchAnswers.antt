-- What the code of the public search shows: each answer is the one that the checks and the test for loops give.
use Prim.Native.Nat.{ℕ, ◌<◌, ◌≤◌}
use mathlib.Core.Bool.{Bool, not}
use mathlib.Core.List.{List}
use mathlib.Core.Path.{◌≡◌, refl, ap, ◌∙◌}
use borrow.Author.Tests.{lt-ltb, le-ltb}
use Rattle.sheet.specs.Plan.{state_count, action_count}
use Rattle.sheet.specs.Reading.{plan_check}
use Rattle.sheet.specs.declared.Refusal.{Refusal}
use Rattle.sheet.specs.declared.Refusal.TheVariants.{NoSuchState}
use Rattle.std.specs.Prelude.{Err, Ok}
use Rattle.sheet.specs.Refusals.{Check}
use Rattle.sheet.proofs.Acceptance.Plan.{plan_iff}
use Rattle.graph.specs.LoopSearch.{LoopSearch, loop_search_check, answer_loop_search, loop_search_of, reported_loop_search, loop_search_report_of}
use Rattle.graph.specs.Explored.{ExploreRequires}
use Rattle.graph.specs.Index.{Sized}
use Rattle.graph.specs.declared.Index.{Index}
use Rattle.graph.specs.LoopTest.{loop_free}
use Rattle.graph.specs.Search.{found_none, explored}
use Rattle.graph.proofs.Search.SearchRight.{search_right}

module _ (p : List ℕ) (state : ℕ) where
  -- the clauses of the contract
  abbrev pub Answers : LoopSearch → Type 0
  Answers r = (r ≡ loop_search_of p state) × (reported_loop_search r ≡ loop_search_report_of p state)

  answers : (r : LoopSearch) (c : Check) → loop_search_check p state ≡ c → r ≡ answer_loop_search (loop_free p state) c → Answers r
  unfolding loop_search_of
  answers r c e f = rw e (f, ap reported_loop_search f)

  pub refused : (x : Refusal) → plan_check p ≡ Err x → Answers (Err x)
  unfolding loop_search_check
  refused x e = answers (Err x) (Err x) (rw e) refl

  module _ (passed : plan_check p ≡ Ok tt) where
    pub no_state_holds : state_count p ≤ state → Answers (Err NoSuchState)
    unfolding loop_search_check
    no_state_holds h = answers (Err NoSuchState) (Err NoSuchState) (rw (passed, le-ltb state (state_count p) h)) refl

    -- the search from a state of the plan, with an index of the right size, found no loop, or one
    module _ (few : action_count p < 256) (below : state < state_count p) (index : Index) (sized : Sized index) where
      given : ExploreRequires p index state
      given = record { kept = (plan_iff p).0 passed; few_actions = few; sized = sized; state_below = below }

      pub looked : (r : Bool) → r ≡ found_none (explored p index state) → Answers (Ok (not r))
      unfolding loop_search_check
      looked r e =
          answers (Ok (not r)) (Ok tt) (rw (passed, lt-ltb state (state_count p) below))
          (ap (λ (x : Bool). Ok (not x)) (e ∙ (search_right p index state given).answer))
