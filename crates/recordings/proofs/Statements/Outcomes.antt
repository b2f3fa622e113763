-- What a sheet and two recordings come to, and the numbers by it.
use Prim.Native.Nat.{ℕ, suc, ◌<◌, ◌≤◌}
use mathlib.Core.Path.{◌≡◌, refl, ap, ◌∙◌}
use mathlib.Core.Bool.{Bool, true, false, ◌&&◌, ◌||◌, true≢false}
use mathlib.Core.List.{List}
use mathlib.Core.Logic.{◌↔◌, ◌⊎◌, inl, inr, ⊎_elim, ⊎_swap}
use native.Mathlib.Omega.{arith}
use lib.ListN.{length, take}
use lib.Seq.{length-take-le}
use lib.Dec.{leb}
use borrow.Author.Tests.{leb-true, leb-false}
use Rattle.sheet.specs.Bytes.{pick}
use Rattle.sheet.specs.Contents.{plan_body}
use Rattle.sheet.specs.Plan.{action_count}
use Rattle.sheet.specs.Reading.{sheet_check}
use Rattle.sheet.specs.RefusalOrder.{GivenInOrder}
use Rattle.sheet.specs.Refusals.{number_of, place_of}
use Rattle.sheet.specs.WellFormed.{WellFormedSheet}
use Rattle.sheet.specs.declared.Refusal.{Refusal}
use Rattle.std.specs.Prelude.{Err, Ok}
use Rattle.sheet.specs.Refusals.{Check}
use Rattle.sheet.proofs.Acceptance.Numbers.{low_refusal, refused_number}
use Rattle.sheet.proofs.Acceptance.Order.{given_in_order}
use Rattle.sheet.proofs.Acceptance.Sheet.{accepted_iff, not_refused}
use Rattle.sheet.proofs.Checks.Lowest.{lowest_below, lowest_found}
use Rattle.recordings.specs.Runs.{HoldsOn, most_actions}
use Rattle.recordings.specs.Shortest.{fails_at, actions_below, either_fails, fewest, answer_found, answer_runs, answer_accepted, answer_sheet, shortest_of}
use Rattle.recordings.specs.Shortest.{actions_in_range, reported_shortest}
use Rattle.recordings.specs.RecordingsCorrect.{LongRun, ActionOver, NotRefused, BeginningOfEither, ShortestFailing, FirstHolds, AllHold}
use Rattle.recordings.specs.Shortest.{Answer}
use Rattle.recordings.specs.declared.Failing.TheVariants.{First, Second}
use Rattle.recordings.specs.declared.RecordingError.TheVariants.{RunTooLong, NoSuchAction, Refused}
use Rattle.std.specs.Prelude.{Some, None}
use Rattle.recordings.proofs.Plans.Runs.{all_below_lem, over_found, within}
use Rattle.recordings.proofs.Statements.Beginnings.{fails_within, holding, shortest_taken}

abbrev pub number : Answer → ℕ
number answer = (reported_shortest answer).number

abbrev place : Answer → ℕ
place answer = (reported_shortest answer).place

-- the cases of two recordings that are not refused
pub data Found (s first second : List ℕ) : Answer → Type 0 where
  first_fails : (n : ℕ) → length (take n first) ≡ n → ShortestFailing s first second (take n first) → Found s first second (Ok (Some (First n)))
  second_fails : (n : ℕ) → length (take n second) ≡ n → ShortestFailing s second first (take n second) → FirstHolds s first (take n second)
      → Found s first second (Ok (Some (Second n)))
  none_fails : AllHold s first second → Found s first second (Ok None)

-- all cases, with what is answered in each
pub data Outcome (s first second : List ℕ) : Answer → Type 0 where
  unread : (x : Refusal) → sheet_check s ≡ Err x → Outcome s first second (Err (Refused x))
  long : WellFormedSheet s → LongRun first second → Outcome s first second (Err RunTooLong)
  over : WellFormedSheet s → (LongRun first second → ⊥) → ActionOver s first second → Outcome s first second (Err NoSuchAction)
  judged : {answer : Answer} → NotRefused s first second → Found s first second answer → Outcome s first second answer

both_false : (a b : Bool) → (a || b) ≡ false → (a ≡ false) × (b ≡ false)
both_false true b e = absurd (true≢false e)
both_false false b e = (refl, e)

module _ (s first second : List ℕ) where
  -- ---- the cases shut one another out

  not_long : length first ≤ most_actions → length second ≤ most_actions → LongRun first second → ⊥
  not_long l m (inl h) = omega arith
  not_long l m (inr h) = omega arith

  judged_long : NotRefused s first second → LongRun first second → ⊥
  judged_long j = not_long j.first_kept.short j.second_kept.short

  judged_over : NotRefused s first second → ActionOver s first second → ⊥
  judged_over j o =
      ⊎_elim (λ m. omega (arith, j.first_kept.below o.action m, o.over))
      (λ m. omega (arith, j.second_kept.below o.action m, o.over)) o.among

  -- ---- the tests taken apart

  abbrev actions : ℕ
  actions = action_count (plan_body s)

  abbrev least : ℕ
  least = fewest s first second

  -- below the least length neither test holds
  below_least : (n : ℕ) → n < least → (fails_at s first n ≡ false) × (fails_at s second n ≡ false)
  unfolding fewest
  below_least n h = both_false (fails_at s first n) (fails_at s second n) (lowest_below (either_fails s first second) (suc most_actions) n h)

  -- at it the second's does where the first's does not
  second_at_least : least ≤ most_actions → fails_at s first least ≡ false → fails_at s second least ≡ true
  unfolding fewest
  second_at_least h e = rw e at (lowest_found (either_fails s first second) (suc most_actions) (omega arith))

  module _ (j : NotRefused s first second) where
    before : (c : List ℕ) → BeginningOfEither first second c → length c < least → HoldsOn s c
    before c (inl p) h = holding s first j.first_kept c p (below_least (length c) h).0
    before c (inr p) h = holding s second j.second_kept c p (below_least (length c) h).1

    short : (c : List ℕ) → BeginningOfEither first second c → length c ≤ most_actions
    short c (inl p) = omega (arith, within c first p, j.first_kept.short)
    short c (inr p) = omega (arith, within c second p, j.second_kept.short)

    size : (run : List ℕ) → fails_at s run least ≡ true → length (take least run) ≡ least
    size run e = length-take-le least run (fails_within s run least e)

    by_fewest : (b of-first : Bool) → leb least most_actions ≡ b → fails_at s first least ≡ of-first
        → Found s first second (pick b (pick of-first (Ok (Some (First least))) (Ok (Some (Second least)))) (Ok None))
    by_fewest false of-first e f = none_fails (λ c p. before c p (omega (arith, leb-false least most_actions e, short c p)))
    by_fewest true true e f = first_fails least (size first f) (shortest_taken s first second j.first_kept least f before)
    by_fewest true false e f =
        let g : fails_at s second least ≡ true = second_at_least (leb-true least most_actions e) f in
        let shortest = shortest_taken s second first j.second_kept least g (λ c p. before c (⊎_swap p)) in
        second_fails least (size second g) shortest
        (λ c p h. holding s first j.first_kept c p (ap (fails_at s first) (h ∙ size second g) ∙ f))

  module _ (k : WellFormedSheet s) where
    module _ (l : length first ≤ most_actions) (m : length second ≤ most_actions) where
      by_actions : (a b : Bool) → actions_below actions first ≡ a → actions_below actions second ≡ b
          → Outcome s first second (pick (a && b) (answer_found s first second) (Err NoSuchAction))
      by_actions false b e f =
          let o = over_found actions first e in
          over k (not_long l m) (record { action = o.0; among = inl o.1; over = o.2 })
      by_actions true false e f =
          let o = over_found actions second f in
          over k (not_long l m) (record { action = o.0; among = inr o.1; over = o.2 })
      by_actions true true e f =
          let j : NotRefused s first second =
          record {
            accepted = k;
            first_kept = record { short = l; below = all_below_lem actions first e };
            second_kept = record { short = m; below = all_below_lem actions second f };
          } in
          judged j (by_fewest j (leb least most_actions) (fails_at s first least) refl refl)

    by_lengths : (a b : Bool) → leb (length first) most_actions ≡ a → leb (length second) most_actions ≡ b
        → Outcome s first second (answer_runs (a && b) (actions_in_range s first second) (answer_found s first second))
    by_lengths false b e f = long k (inl (leb-false (length first) most_actions e))
    by_lengths true false e f = long k (inr (leb-false (length second) most_actions f))
    by_lengths true true e f =
        by_actions (leb-true (length first) most_actions e) (leb-true (length second) most_actions f)
        (actions_below actions first) (actions_below actions second) refl refl

  by_sheet : (c : Check) → sheet_check s ≡ c
      → Outcome s first second (answer_sheet c (answer_accepted s first second))
  by_sheet (Ok tt) e =
      by_lengths ((accepted_iff s).0 e) (leb (length first) most_actions) (leb (length second) most_actions) refl refl
  by_sheet (Err x) e = unread x e

  pub outcome : Outcome s first second (shortest_of s first second)
  unfolding shortest_of
  outcome = by_sheet (sheet_check s) refl

  -- ---- the numbers

  found_none_lem : {answer : Answer} → Found s first second answer → (number answer ≡ 0) × (place answer ≡ 0)
  found_none_lem (first_fails n e f) = (refl, refl)
  found_none_lem (second_fails n e f h) = (refl, refl)
  found_none_lem (none_fails a) = (refl, refl)

  -- of a sheet that is read the number is 0 or above 10
  read_in_order : WellFormedSheet s → (n p : ℕ) → (n ≡ 0) ⊎ (10 < n) → GivenInOrder s n p
  read_in_order k n p high = given_in_order s n p (λ x e. absurd (not_refused s e k)) (λ e. high)

  pub in_order : {answer : Answer} → Outcome s first second answer → GivenInOrder s (number answer) (place answer)
  in_order (unread x e) =
      given_in_order s (number_of x) (place_of x) (λ y f. let same : x ≡ y = cc in (ap number_of same, ap place_of same))
      (λ f. absurd (not_refused s e ((accepted_iff s).0 f)))
  in_order (long k l) = read_in_order k 42 0 (inr (omega arith))
  in_order (over k l o) = read_in_order k 43 0 (inr (omega arith))
  in_order {answer} (judged j f) = read_in_order j.accepted (number answer) (place answer) (inl (found_none_lem f).0)

  pub forty_two : {answer : Answer} → Outcome s first second answer → (number answer ≡ 42) ↔ (WellFormedSheet s × LongRun first second)
  forty_two (unread x e) = (λ h. absurd (omega (arith, low_refusal s e)), λ g. absurd (not_refused s e g.0))
  forty_two (long k l) = (λ h. (k, l), λ g. refl)
  forty_two (over k l o) = (λ h. absurd (omega arith), λ g. absurd (l g.1))
  forty_two (judged j f) = (λ h. absurd (omega (arith, (found_none_lem f).0)), λ g. absurd (judged_long j g.1))

  pub forty_three : {answer : Answer} → Outcome s first second answer
      → (number answer ≡ 43) ↔ (WellFormedSheet s × ((LongRun first second → ⊥) × ActionOver s first second))
  forty_three (unread x e) = (λ h. absurd (omega (arith, low_refusal s e)), λ g. absurd (not_refused s e g.0))
  forty_three (long k l) = (λ h. absurd (omega arith), λ g. absurd (g.1.0 l))
  forty_three (over k l o) = (λ h. (k, (l, o)), λ g. refl)
  forty_three (judged j f) = (λ h. absurd (omega (arith, (found_none_lem f).0)), λ g. absurd (judged_over j g.1.1))

  pub judged_exactly : {answer : Answer} → Outcome s first second answer → (number answer ≡ 0) ↔ NotRefused s first second
  judged_exactly (unread x e) = (λ h. absurd (omega (arith, refused_number x)), λ j. absurd (not_refused s e j.accepted))
  judged_exactly (long k l) = (λ h. absurd (omega arith), λ j. absurd (judged_long j l))
  judged_exactly (over k l o) = (λ h. absurd (omega arith), λ j. absurd (judged_over j o))
  judged_exactly (judged j f) = (λ h. j, λ i. (found_none_lem f).0)

  pub place_none : {answer : Answer} → Outcome s first second answer → WellFormedSheet s → place answer ≡ 0
  place_none (unread x e) k = absurd (not_refused s e k)
  place_none (long j l) k = refl
  place_none (over j l o) k = refl
  place_none (judged j f) k = (found_none_lem f).1
