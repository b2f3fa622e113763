-- Every call of `grant` that keeps its contract gives the right number, and where it is accepted what each bench gets is right.
use Rattle.std.specs.Prelude.{Ok, Err}
use Prim.Native.Nat.{ℕ, ◌<◌, ◌≤◌}
use mathlib.Core.Path.{◌≡◌, refl, sym, ap, subst, ◌∙◌}
use mathlib.Core.Bool.{Bool}
use mathlib.Core.List.{List}
use mathlib.Core.Logic.{inr}
use native.Mathlib.Omega.{arith}
use native.Mathlib.Decide.{dec_lt}
use lib.ListN.{length}
use lib.Dec.{ltb}
use borrow.Author.Tests.{lt-ltb, le-ltb}
use Rattle.sheet.specs.Bytes.{byte, pick}
use Rattle.sheet.proofs.Acceptance.Numbers.{refused_number}
use Rattle.allowance.specs.Dealing.{of_bench}
use Rattle.allowance.specs.DealingCorrect.{WellDealt}
use Rattle.allowance.specs.Granting.{most_benches, no_bench, bench_table, need_of, needs_of}
use Rattle.allowance.specs.Granting.{is_short, bench_of, table_of, benches_granted, tables_granted}
use Rattle.allowance.specs.Granting.{grants_of, answer_of, benches_by, tables_by, benches_for}
use Rattle.allowance.specs.Granting.{tables_left, AnswerReport, reported_answer, answer_report_of, Grants}
use Rattle.allowance.specs.GrantsCorrect.{WrongBenchCount, GrantNumbers, BenchRight}
use Rattle.allowance.specs.GrantsCorrect.{bench_at, GrantCorrect, GrantsCorrect}
use Rattle.allowance.specs.Internal.Benches.{ReportsZeroBelow}
use Rattle.allowance.specs.Granting.{Answer}
use Rattle.allowance.specs.declared.GrantError.TheVariants.{BenchCountWrong, WrongCount, Refused}
use Rattle.allowance.specs.declared.Bench.{Bench}
use Rattle.allowance.specs.Granting.{Granted, answer_in, benches_in}
use Rattle.allowance.proofs.Lists.ForBenches.{for_length, for_first, for_past}
use Rattle.allowance.proofs.Tables.Answers.{need_count, need_of_bench, refused_nothing}
use Rattle.allowance.proofs.Tables.Outcomes.{outcome, to_0, some_bench, forty_four, own_refusal}
use Rattle.allowance.proofs.Tables.Outcomes.{accepted_exactly, sheet_in_order, twenty_exactly, no_place}
use Rattle.allowance.proofs.Tables.EachBench.{bench_right}
use Rattle.allowance.proofs.Tables.TablesAfter.{tables_fit, table_after_lem, bytes_past, buffer_length}
use Rattle.allowance.proofs.Statements.DealingCorrect.{dealing_correct}

module _ (s states : List ℕ) (allowance : ℕ) (t : List ℕ) where
  -- ---- what a call gives beside its answer

  abbrev grants : List ℕ
  grants = grants_of s states t allowance

  accepted_gives : (a : Answer) → (reported_answer a).number ≡ 0
      → (benches_by s states t allowance a ≡ benches_granted s states t grants)
      × (tables_by s states t allowance a ≡ tables_granted s states t grants)
  accepted_gives (Ok tt) e = (refl, refl)
  accepted_gives (Err BenchCountWrong) e = absurd (omega arith)
  accepted_gives (Err WrongCount) e = absurd (omega arith)
  accepted_gives (Err (Refused x)) e = absurd (omega (arith, refused_number x))

  defined_numbers : GrantNumbers s states t (answer_report_of s states t) (benches_for s states t allowance) (tables_left s states t allowance)
  unfolding benches_for tables_left
  defined_numbers =
      let o = outcome s states t in
      record {
        forty_four = forty_four s states t o;
        own = own_refusal s states t o;
        accepted = accepted_exactly s states t o;
        in_order = sheet_in_order s states t o;
        twenty = twenty_exactly s states t o;
        place = no_place s states t o;
        refused = refused_nothing s states t allowance (answer_of s states t);
      }

  -- ---- a call that refuses no bench

  module _ (right : WrongBenchCount states → ⊥) (none : ReportsZeroBelow s states t (length states)) where
    abbrev needs : List ℕ
    needs = needs_of s states t

    at_least_one : 0 < length states
    at_least_one = some_bench s states t right

    dealt_well : WellDealt needs allowance grants
    dealt_well = dealing_correct.well_dealt needs allowance

    few : length states ≤ most_benches
    few = let f : (most_benches < length states → ⊥) = λ h. right (inr h) in omega (arith, f)

    -- the results, by bench
    abbrev result_for : ℕ → Bench
    result_for i = pick (ltb i (length states)) (bench_of s states t grants i) no_bench

    result_at_lem : (i : ℕ) → i < most_benches → bench_at (benches_granted s states t grants) i ≡ result_for i
    unfolding benches_granted
    result_at_lem i h = for_first result_for most_benches i no_bench h

    bench_at_lem : (i : ℕ) → i < length states → bench_at (benches_granted s states t grants) i ≡ bench_of s states t grants i
    bench_at_lem i h =
        result_at_lem i (omega (arith, few))
        ∙ ap (λ (b : Bool). pick b (bench_of s states t grants i) no_bench) (lt-ltb i (length states) h)

    no_bench_at : (i : ℕ) → length states ≤ i → bench_at (benches_granted s states t grants) i ≡ no_bench
    unfolding benches_granted
    no_bench_at i h =
        elim (dec_lt i most_benches) [
          | yes l ↦ result_at_lem i l ∙ ap (λ (b : Bool). pick b (bench_of s states t grants i) no_bench) (le-ltb i (length states) h)
          | no l ↦ for_past result_for most_benches 0 i no_bench (omega arith)
        ]

    each_bench : (i : ℕ) → i < length states
        → BenchRight s (byte states i) (bench_table s t i) (bench_table s (tables_granted s states t grants) i) (of_bench needs i)
        (of_bench grants i) (bench_at (benches_granted s states t grants) i)
    each_bench i h =
        let most : of_bench grants i ≤ need_of s states t i =
        omega (arith, dealt_well.at_most_holds i (omega (arith, need_count s states t)), need_of_bench s states t i h) in
        let b : BenchRight s (byte states i) (bench_table s t i) (table_of s states t grants i) (need_of s states t i) (of_bench grants i)
        (bench_of s states t grants i) =
        bench_right s (byte states i) (bench_table s t i) (none i h) (of_bench grants i) most (is_short s states t grants i) refl in
        rw (table_after_lem s states t none grants i h, need_of_bench s states t i h, bench_at_lem i h) b

    dealt_right : GrantCorrect s states allowance t (benches_granted s states t grants) (tables_granted s states t grants)
    unfolding benches_granted
    dealt_right = record {
      need_each = need_count s states t;
      well_dealt = dealt_well;
      each = each_bench;
      room = for_length result_for most_benches 0;
      none = no_bench_at;
      tables_fit = tables_fit s states t none at_least_one;
      past = bytes_past s states t none grants;
      length_kept = buffer_length s states t none grants at_least_one;
    }

  module _ (r : Granted) (u : List ℕ) (k : Grants s states allowance t r u) where
    call_numbers_are : GrantNumbers s states t (reported_answer (answer_in r)) (benches_in r) u
    call_numbers_are =
        subst (λ (a : AnswerReport). GrantNumbers s states t a (benches_in r) u) (sym k.1.0)
        (subst (λ (b : List Bench). GrantNumbers s states t (answer_report_of s states t) b u) (sym k.1.1.0)
        (subst (GrantNumbers s states t (answer_report_of s states t) (benches_for s states t allowance)) (sym k.1.1.1) defined_numbers))

    call_deals : (reported_answer (answer_in r)).number ≡ 0 → GrantCorrect s states allowance t (benches_in r) u
    unfolding benches_for tables_left
    call_deals e =
        let n : (answer_report_of s states t).number ≡ 0 = sym (ap (λ (a : AnswerReport). a.number) k.1.0) ∙ e in
        let o = to_0 s states t (outcome s states t) n in
        let g = accepted_gives (answer_of s states t) n in
        subst (λ (b : List Bench). GrantCorrect s states allowance t b u) (sym (k.1.1.0 ∙ g.0))
        (subst (GrantCorrect s states allowance t (benches_granted s states t grants)) (sym (k.1.1.1 ∙ g.1)) (dealt_right o.0 o.1))

pub grants_correct : GrantsCorrect
grants_correct = record { numbers = call_numbers_are; accepted = call_deals }
