-- What the loop that finds the needs shows.
use Prim.Native.Nat.{ℕ, ◌+◌, ◌*◌, ◌<◌, ◌≤◌}
use mathlib.Core.Path.{◌≡◌, refl, sym, ap, ◌∙◌}
use mathlib.Core.Bool.{Bool, false, not}
use mathlib.Core.List.{List}
use native.Mathlib.Omega.{arith}
use native.Mathlib.Decide.{ℕ_discrete}
use lib.ListN.{length, get_or, set, replicate, length-set, length-map, length-replicate, get_or-map}
use lib.Seq.{get_or-set_same, get_or-set_other, ext_get_or}
use lib.Dec.{eqb}
use borrow.Author.Tests.{eq-eqb, ne_eqb}
use Rattle.sheet.specs.Bytes.{byte, slice, pick}
use Rattle.sheet.proofs.Checks.Seeking.{Seeking, seek_start, seek_here, seek_next, seek_end}
use Rattle.sheet.proofs.Acceptance.Numbers.{refused_number}
use Rattle.judge.specs.Cells.{table_bytes}
use Rattle.judge.specs.Querying.{reported_query, queried_of}
use Rattle.std.specs.Prelude.{Ok, Err}
use Rattle.judge.specs.Querying.{Queried}
use Rattle.judge.specs.declared.QueryError.TheVariants.{WrongCount as QueryWrongCount, Refused as QueryRefused}
use Rattle.allowance.specs.Granting.{no_bench, bench_queried, bench_report, need_of, is_refused, lowest_refused, refusal_of, answer_benches}
use Rattle.allowance.specs.Internal.Benches.{ReportsZeroBelow, needs_in, grants_in, verdicts_in, FindsNeeds}
use Rattle.allowance.specs.declared.Bench.{Bench}
use Rattle.judge.specs.declared.Judged.{Judged}
use Rattle.judge.specs.declared.QueryError.{QueryError}
use Rattle.allowance.specs.Granting.{Answer}
use Rattle.allowance.proofs.Lists.ForBenches.{for_each, replicate_at}

-- a query that is refused has a number
error_counts : (x : QueryError) → 0 < (reported_query (Err x)).number
error_counts QueryWrongCount = omega arith
error_counts (QueryRefused x) = refused_number x

-- and turns the call down
not_dealt : (x : QueryError) → refusal_of (Err x) ≡ Ok tt → ⊥
not_dealt QueryWrongCount e = cc
not_dealt (QueryRefused x) e = cc

module _ (s states t : List ℕ) where
  -- no bench below i is refused, and their needs and verdicts are found
  pub record Needing (benches : List Bench) (i : ℕ) : Type 0 where
    pub place_each : length benches ≡ length states
    pub seeking : Seeking (is_refused s states t) (length states) (lowest_refused s states t) i
    pub taken : ReportsZeroBelow s states t i
    pub found : (j : ℕ) → j < i → (get_or benches j no_bench).need ≡ need_of s states t j
    pub judged : (j : ℕ) → j < i → (get_or benches j no_bench).verdict ≡ (bench_report s states t j).verdict
    pub none_granted : (j : ℕ) → (get_or benches j no_bench).grant ≡ 0

  pub need_start : {benches : List Bench} → benches ≡ replicate (length states) no_bench → Needing benches 0
  need_start {benches} e =
      record {
        place_each = ap (length {A = Bench}) e ∙ length-replicate (length states) no_bench;
        seeking = seek_start (is_refused s states t) (length states) (length states) refl;
        taken = λ j h. absurd (omega arith);
        found = λ j h. absurd (omega arith);
        judged = λ j h. absurd (omega arith);
        none_granted = λ j. ap (λ (l : List Bench). (get_or l j no_bench).grant) e ∙ ap (λ (b : Bench). b.grant) (replicate_at (length states) j no_bench);
      }

  -- the query that is asked is that of bench i
  pub asks_bench : {size : ℕ} → size ≡ table_bytes s → (i : ℕ) {table : List ℕ} {q : Queried} → q ≡ queried_of s (byte states i) table
      → table ≡ slice t (i * size) size → q ≡ bench_queried s states t i
  asks_bench e i a b = a ∙ ap (queried_of s (byte states i)) (b ∙ ap (λ (n : ℕ). slice t (i * n) n) e)

  refused_by_lem : (q : Queried) (i : ℕ) → q ≡ bench_queried s states t i → not (eqb (reported_query q).number 0) ≡ is_refused s states t i
  refused_by_lem q i e = ap (λ (a : Queried). not (eqb (reported_query a).number 0)) e

  module _ {benches : List Bench} {i : ℕ} (w : Needing benches i) where
    pub need_next : {j : Judged} {b : Bench} → i < length states → Ok j ≡ bench_queried s states t i
        → b ≡ record { need = j.visits; grant = 0; short = false; verdict = j.verdict; visits = 0 } → Needing (set benches i b) (i + 1)
    need_next {j = q} {b} h e is =
        record {
          place_each = length-set benches i b ∙ w.place_each;
          seeking = seek_next w.seeking h (sym (refused_by_lem (Ok q) i e));
          taken = λ j l. elim (ℕ_discrete j i) [
            | yes same ↦ ap (λ (x : ℕ). (bench_report s states t x).number) same ∙ sym (ap (λ (q : Queried). (reported_query q).number) e)
            | no other ↦ w.taken j (omega arith)
          ];
          found = λ j l. elim (ℕ_discrete j i) [
            | yes same ↦ ap (λ (b : Bench). b.need) (here j same)
                ∙ ap (λ (q : Queried). (reported_query q).visits) e ∙ ap (need_of s states t) (sym same)
            | no other ↦ ap (λ (b : Bench). b.need) (get_or-set_other benches i j b no_bench other) ∙ w.found j (omega arith)
          ];
          judged = λ j l. elim (ℕ_discrete j i) [
            | yes same ↦ ap (λ (b : Bench). b.verdict) (here j same)
                ∙ ap (λ (q : Queried). (reported_query q).verdict) e ∙ ap (λ (x : ℕ). (bench_report s states t x).verdict) (sym same)
            | no other ↦ ap (λ (b : Bench). b.verdict) (get_or-set_other benches i j b no_bench other) ∙ w.judged j (omega arith)
          ];
          none_granted = λ j. elim (ℕ_discrete j i) [
            | yes same ↦ ap (λ (b : Bench). b.grant) (here j same)
            | no other ↦ ap (λ (b : Bench). b.grant) (get_or-set_other benches i j b no_bench other) ∙ w.none_granted j
          ];
        }
      where
        here : (j : ℕ) → j ≡ i → get_or (set benches i b) j no_bench ≡ record { need = q.visits; grant = 0; short = false; verdict = q.verdict; visits = 0 }
        here j same =
            ap (λ (x : ℕ). get_or (set benches i b) x no_bench) same ∙ get_or-set_same benches i b no_bench (omega (arith, w.place_each)) ∙ is

    answers_first : i < length states → i ≡ lowest_refused s states t → answer_benches s states t ≡ refusal_of (bench_queried s states t i)
    answers_first h e =
        let apart : lowest_refused s states t ≡ length states → ⊥ = λ q. omega (arith, e) in
        ap (λ (b : Bool). pick b (Ok tt) (refusal_of (bench_queried s states t (lowest_refused s states t)))) (ne_eqb (lowest_refused s states t) (length states) apart)
        ∙ ap (λ (j : ℕ). refusal_of (bench_queried s states t j)) (sym e)

    -- the first bench that is refused
    pub need_refused : {x : QueryError} → i < length states → Err x ≡ bench_queried s states t i → {r : Answer} → r ≡ refusal_of (Err x)
        → FindsNeeds s states t r benches
    need_refused {x} h q {r} is =
        record {
          answers = is ∙ ap refusal_of q
              ∙ sym (answers_first h (seek_here w.seeking h (sym (refused_by_lem (Err x) i q) ∙ ap not (ne_eqb (reported_query (Err x)).number 0 (λ z. omega (arith, z, error_counts x))))));
          none_refused = λ z. absurd (not_dealt x (sym is ∙ z));
          found = λ z. absurd (not_dealt x (sym is ∙ z));
          judged = λ z. absurd (not_dealt x (sym is ∙ z));
          none_granted = λ z. absurd (not_dealt x (sym is ∙ z));
        }

    -- no bench is
    pub need_end : length states ≤ i → FindsNeeds s states t (Ok tt) benches
    need_end h =
        record {
          answers = sym (ap (λ (b : Bool). pick b (Ok tt) (refusal_of (bench_queried s states t (lowest_refused s states t))))
              (eq-eqb (lowest_refused s states t) (length states) (omega (arith, seek_end w.seeking h, w.seeking.within))));
          none_refused = λ x j l. w.taken j (omega arith);
          found = λ x. for_each (need_of s states t) (length states) (needs_in benches) 0 (length-map benches (λ b. b.need) ∙ w.place_each)
              (λ j l. get_or-map (λ b. b.need) benches j no_bench ∙ w.found j (omega arith));
          judged = λ x. for_each (λ i. (bench_report s states t i).verdict) (length states) (verdicts_in benches) false
              (length-map benches (λ b. b.verdict) ∙ w.place_each) (λ j l. get_or-map (λ b. b.verdict) benches j no_bench ∙ w.judged j (omega arith));
          none_granted = λ x. ext_get_or 0 (grants_in benches) (replicate (length states) 0)
              (length-map benches (λ b. b.grant) ∙ w.place_each ∙ sym (length-replicate (length states) 0))
              (λ j l. get_or-map (λ b. b.grant) benches j no_bench ∙ w.none_granted j ∙ sym (replicate_at (length states) j 0));
        }
