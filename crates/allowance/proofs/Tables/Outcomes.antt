-- What a sheet, the benches' states and a buffer come to, and the numbers by it.
use Prim.Native.Nat.{ℕ, ◌+◌, ◌*◌, ◌<◌, ◌≤◌}
use mathlib.Core.Path.{◌≡◌, refl, sym, ap, subst, ◌∙◌}
use mathlib.Core.Bool.{Bool, true, false, not, ◌&&◌}
use mathlib.Core.List.{List}
use mathlib.Core.Logic.{◌⊎◌, ◌↔◌, ◌≢◌, inl, inr}
use native.Mathlib.Omega.{arith}
use lib.ListN.{length, length-take, length-drop, drop}
use lib.Dec.{eqb, leb}
use borrow.Author.Tests.{eqb-true, eqb-false, leb-true, leb-false, not-true, not-false}
use Rattle.sheet.specs.Bytes.{byte, pick}
use Rattle.sheet.specs.Refusals.{number_of}
use Rattle.sheet.specs.RefusalOrder.{GivenInOrder}
use Rattle.sheet.specs.WellFormed.{WellFormedSheet}
use Rattle.sheet.specs.declared.Refusal.{Refusal}
use Rattle.sheet.specs.declared.Refusal.TheVariants.{TooShort, Heading, Contents, PlanSize}
use Rattle.sheet.specs.declared.Refusal.TheVariants.{TransitionFault, ActionsSize, EntryFault, RuleSize}
use Rattle.sheet.specs.declared.Refusal.TheVariants.{SyntaxFault, BindingFault, NoSuchState, Loop}
use Rattle.sheet.specs.declared.Refusal.TheVariants.{TooManyStates, TableShort, TableByte, OutputShort}
use Rattle.sheet.proofs.Acceptance.Numbers.{refused_number}
use Rattle.sheet.proofs.Checks.Lowest.{lowest_bound, lowest_below, lowest_found}
use Rattle.judge.specs.Cells.{table_bytes}
use Rattle.judge.specs.CallNumbers.{QueryNumbers}
use Rattle.judge.specs.Querying.{QueryReport, reported_query, table_queried}
use Rattle.std.specs.Prelude.{Ok, Err}
use Rattle.judge.specs.Querying.{Queried}
use Rattle.judge.specs.declared.QueryError.TheVariants.{WrongCount as QueryWrongCount, Refused as QueryRefused}
use Rattle.judge.proofs.Statements.CallNumbers.{call_numbers}
use Rattle.allowance.specs.Granting.{most_benches, refusal_of, bench_table, bench_queried, bench_report}
use Rattle.allowance.specs.Granting.{is_refused, lowest_refused, answer_benches, answer_of}
use Rattle.allowance.specs.Granting.{reported_answer, answer_report_of}
use Rattle.allowance.specs.GrantsCorrect.{WrongBenchCount, BenchGives, NoneRefusedBefore, LowestRefusal, TooShortFor}
use Rattle.allowance.specs.Internal.Benches.{ReportsZeroBelow}
use Rattle.allowance.specs.Granting.{Answer}
use Rattle.allowance.specs.declared.GrantError.TheVariants.{BenchCountWrong}
use Rattle.allowance.proofs.Tables.EndToEnd.{one_more_table}

-- no bench has 44 of its own
below_44 : (x : Refusal) → number_of x < 44
below_44 TooShort = omega arith
below_44 Heading = omega arith
below_44 Contents = omega arith
below_44 PlanSize = omega arith
below_44 (TransitionFault t) = omega arith
below_44 ActionsSize = omega arith
below_44 (EntryFault e) = omega arith
below_44 RuleSize = omega arith
below_44 (SyntaxFault n) = omega arith
below_44 (BindingFault n) = omega arith
below_44 NoSuchState = omega arith
below_44 Loop = omega arith
below_44 TooManyStates = omega arith
below_44 TableShort = omega arith
below_44 TableByte = omega arith
below_44 OutputShort = omega arith

own_below_44 : (q : Queried) → (reported_query q).number < 44
own_below_44 (Ok j) = omega arith
own_below_44 (Err QueryWrongCount) = omega arith
own_below_44 (Err (QueryRefused x)) = below_44 x

-- the whole call has the number and the place of the bench
same_number : (q : Queried) → (reported_query q).number ≡ (reported_answer (refusal_of q)).number
same_number (Ok j) = refl
same_number (Err QueryWrongCount) = refl
same_number (Err (QueryRefused x)) = refl

same_place : (q : Queried) → (reported_query q).place ≡ (reported_answer (refusal_of q)).place
same_place (Ok j) = refl
same_place (Err QueryWrongCount) = refl
same_place (Err (QueryRefused x)) = refl

-- a query that is not refused has place 0
place_of_none : (q : Queried) → (reported_query q).number ≡ 0 → (reported_query q).place ≡ 0
place_of_none (Ok j) e = refl
place_of_none (Err QueryWrongCount) e = refl
place_of_none (Err (QueryRefused x)) e = absurd (omega (arith, refused_number x))

-- a part of a buffer is as long as the table, or the buffer ends before the table does
pub table_length : (s t : List ℕ) (i : ℕ) → length (bench_table s t i) ≤ table_bytes s
table_length s t i = omega (arith, length-take (table_bytes s) (drop (i * table_bytes s) t))

pub short_table : (s t : List ℕ) (i : ℕ) → (length (bench_table s t i) < table_bytes s) ↔ (length t < (i + 1) * table_bytes s)
short_table s t i =
    let size = table_bytes s in
    let a = length-take size (drop (i * size) t) in
    let b = length-drop (i * size) t in
    (λ h. omega (arith, a, b, one_more_table i size), λ h. omega (arith, a, b, one_more_table i size))

module _ (s states t : List ℕ) where
  -- the query of a bench is a call of the judge's
  pub bench_numbers : (i : ℕ) → QueryNumbers s (byte states i) (bench_table s t i) (bench_queried s states t i)
  bench_numbers i =
      call_numbers.queries s (byte states i) (bench_table s t i) (bench_queried s states t i)
      (table_queried s (byte states i) (bench_table s t i)) (refl, (refl, refl))

  -- the lowest bench's refusal, by what its query is defined to report
  pub record LowestReported (i number place : ℕ) : Type 0 where
    pub there : i < length states
    pub refused : number ≢ 0
    pub number_is : (bench_report s states t i).number ≡ number
    pub place_is : (bench_report s states t i).place ≡ place
    pub none_before : ReportsZeroBelow s states t i

  pub data Outcome : ℕ → ℕ → Type 0 where
    wrong_count : WrongBenchCount states → Outcome 44 0
    turned_down : {n p : ℕ} → (WrongBenchCount states → ⊥) → (i : ℕ) → LowestReported i n p → Outcome n p
    all_dealt : (WrongBenchCount states → ⊥) → ReportsZeroBelow s states t (length states) → Outcome 0 0

  abbrev Answers : Answer → Type 0
  Answers a = Outcome (reported_answer a).number (reported_answer a).place

  -- ---- the cases

  not_refused_below : (i : ℕ) → i ≤ lowest_refused s states t → ReportsZeroBelow s states t i
  not_refused_below i b j h =
      eqb-true (bench_report s states t j).number 0
      (not-false (eqb (bench_report s states t j).number 0)
      (lowest_below (is_refused s states t) (length states) j (omega arith)))

  by_lowest : (WrongBenchCount states → ⊥) → (b : Bool) → eqb (lowest_refused s states t) (length states) ≡ b
      → Answers (pick b (Ok tt) (refusal_of (bench_queried s states t (lowest_refused s states t))))
  by_lowest right true e =
      all_dealt right (not_refused_below (length states) (omega (arith, eqb-true (lowest_refused s states t) (length states) e)))
  by_lowest right false e =
      let i = lowest_refused s states t in
      let q = bench_queried s states t i in
      let b : i < length states = omega (arith, lowest_bound (is_refused s states t) (length states), eqb-false i (length states) e) in
      let f : eqb (reported_query q).number 0 ≡ false =
      not-true (eqb (reported_query q).number 0) (lowest_found (is_refused s states t) (length states) b) in
      turned_down right i (record {
        there = b;
        refused = λ z. eqb-false (reported_query q).number 0 f (same_number q ∙ z);
        number_is = same_number q;
        place_is = same_place q;
        none_before = not_refused_below i (omega arith);
      })

  count_right_holds : (length states ≡ 0 → ⊥) → length states ≤ most_benches → WrongBenchCount states → ⊥
  count_right_holds a b (inl h) = a h
  count_right_holds a b (inr h) = omega arith

  by_count : (a b : Bool) → eqb (length states) 0 ≡ a → leb (length states) most_benches ≡ b
      → Answers (pick (not a && b) (answer_benches s states t) (Err BenchCountWrong))
  by_count true b e f = wrong_count (inl (eqb-true (length states) 0 e))
  by_count false false e f = wrong_count (inr (leb-false (length states) most_benches f))
  by_count false true e f =
      by_lowest (count_right_holds (eqb-false (length states) 0 e) (leb-true (length states) most_benches f))
      (eqb (lowest_refused s states t) (length states)) refl

  pub outcome : Outcome (answer_report_of s states t).number (answer_report_of s states t).place
  unfolding answer_of
  outcome = by_count (eqb (length states) 0) (leb (length states) most_benches) refl refl

  -- ---- the numbers

  pub some_bench : (WrongBenchCount states → ⊥) → 0 < length states
  some_bench right = let f : length states ≢ 0 = λ z. right (inl z) in omega (arith, f)

  own_44 : {i p : ℕ} → LowestReported i 44 p → ⊥
  own_44 {i} l = omega (arith, own_below_44 (bench_queried s states t i), l.number_is)

  -- there is one lowest refusal
  lowest_once : {i j n m p q : ℕ} → LowestReported i n p → LowestReported j m q → i < j → ⊥
  lowest_once {i} a b h = a.refused (sym a.number_is ∙ b.none_before i h)

  one_lowest : {i j n m p q : ℕ} → LowestReported i n p → LowestReported j m q → i ≡ j
  one_lowest a b = omega (arith, lowest_once a b, lowest_once b a)

  none_lowest : {i n p : ℕ} → ReportsZeroBelow s states t (length states) → LowestReported i n p → ⊥
  none_lowest {i} none l = l.refused (sym l.number_is ∙ none i l.there)

  to_44 : {n p : ℕ} → Outcome n p → n ≡ 44 → WrongBenchCount states
  to_44 (wrong_count w) e = w
  to_44 {p = p} (turned_down right i l) e = absurd (own_44 (subst (λ (n : ℕ). LowestReported i n p) e l))
  to_44 (all_dealt right none) e = absurd (omega arith)

  from_44 : {n p : ℕ} → Outcome n p → WrongBenchCount states → n ≡ 44
  from_44 (wrong_count w) h = refl
  from_44 (turned_down right i l) h = absurd (right h)
  from_44 (all_dealt right none) h = absurd (right h)

  pub forty_four : {n p : ℕ} → Outcome n p → (n ≡ 44) ↔ WrongBenchCount states
  forty_four o = (to_44 o, from_44 o)

  abbrev Own : ℕ → ℕ → Type 0
  Own number place = (WrongBenchCount states → ⊥) × ((i : ℕ) × LowestReported i number place)

  to_own : {n p : ℕ} → Outcome n p → (number place : ℕ) → number ≢ 0 → number ≢ 44 → (n ≡ number) × (p ≡ place) → Own number place
  to_own (wrong_count w) number place a b e = absurd (b (sym e.0))
  to_own {n} {p} (turned_down right i l) number place a b e =
      (right, (i, subst (LowestReported i number) e.1 (subst (λ (m : ℕ). LowestReported i m p) e.0 l)))
  to_own (all_dealt right none) number place a b e = absurd (a (sym e.0))

  from_own : {n p : ℕ} → Outcome n p → (number place : ℕ) → Own number place → (n ≡ number) × (p ≡ place)
  from_own (wrong_count w) number place h = absurd (h.0 w)
  from_own (turned_down right i l) number place h =
      let m = h.1.1 in
      let e : i ≡ h.1.0 = one_lowest l m in (
        sym l.number_is ∙ ap (λ (j : ℕ). (bench_report s states t j).number) e ∙ m.number_is,
        sym l.place_is ∙ ap (λ (j : ℕ). (bench_report s states t j).place) e ∙ m.place_is,
      )
  from_own (all_dealt right none) number place h = absurd (none_lowest none h.1.1)

  pub to_0 : {n p : ℕ} → Outcome n p → n ≡ 0 → (WrongBenchCount states → ⊥) × ReportsZeroBelow s states t (length states)
  to_0 (wrong_count w) e = absurd (omega arith)
  to_0 (turned_down right i l) e = absurd (l.refused e)
  to_0 (all_dealt right none) e = (right, none)

  from_0 : {n p : ℕ} → Outcome n p → (WrongBenchCount states → ⊥) × ReportsZeroBelow s states t (length states) → n ≡ 0
  from_0 (wrong_count w) h = absurd (h.0 w)
  from_0 (turned_down right i l) h = absurd (none_lowest h.1 l)
  from_0 (all_dealt right none) h = refl

  -- every bench's query tells the sheet's faults
  pub sheet_in_order : {n p : ℕ} → Outcome n p → (WrongBenchCount states → ⊥) → GivenInOrder s n p
  sheet_in_order (wrong_count w) right = absurd (right w)
  sheet_in_order {n} {p} (turned_down r i l) right =
      subst (GivenInOrder s n) l.place_is
      (subst (λ (m : ℕ). GivenInOrder s m (bench_report s states t i).place) l.number_is (bench_numbers i).in_order)
  sheet_in_order (all_dealt r none) right = λ k m b c. (
    λ e. absurd (omega (arith, e.0)),
    λ f. absurd (omega (arith, (((bench_numbers 0).in_order k m b c).1 f).0, none 0 (some_bench right))),
  )

  pub no_place : {n p : ℕ} → Outcome n p → WrongBenchCount states ⊎ WellFormedSheet s → p ≡ 0
  no_place (wrong_count w) h = refl
  no_place (turned_down right i l) (inl w) = absurd (right w)
  no_place (turned_down right i l) (inr k) = sym l.place_is ∙ (bench_numbers i).place k
  no_place (all_dealt right none) h = refl

  -- ---- by the running calls

  gives : (i : ℕ) {number place : ℕ} → (bench_report s states t i).number ≡ number → (bench_report s states t i).place ≡ place
      → BenchGives s states t i number place
  gives i e f q w k = (ap (λ (x : QueryReport). x.number) k.1.0 ∙ e, ap (λ (x : QueryReport). x.place) k.1.0 ∙ f)

  given : (i : ℕ) {number place : ℕ} → BenchGives s states t i number place
      → ((bench_report s states t i).number ≡ number) × ((bench_report s states t i).place ≡ place)
  given i g = g (bench_queried s states t i) (table_queried s (byte states i) (bench_table s t i)) (refl, (refl, refl))

  none_given : {i : ℕ} → ReportsZeroBelow s states t i → NoneRefusedBefore s states t i
  none_given none j h = gives j (none j h) (place_of_none (bench_queried s states t j) (none j h))

  none_taken : {i : ℕ} → NoneRefusedBefore s states t i → ReportsZeroBelow s states t i
  none_taken none j h = (given j (none j h)).0

  lowest_given : {i n p : ℕ} → LowestReported i n p → LowestRefusal s states t i n p
  lowest_given {i} l = record { there = l.there; gives = gives i l.number_is l.place_is; none_before = none_given l.none_before }

  lowest_taken : {i n p : ℕ} → n ≢ 0 → LowestRefusal s states t i n p → LowestReported i n p
  lowest_taken {i} some l =
      let g = given i l.gives in
      record { there = l.there; refused = some; number_is = g.0; place_is = g.1; none_before = none_taken l.none_before }

  pub own_refusal : {n p : ℕ} → Outcome n p → (number place : ℕ) → number ≢ 0 → number ≢ 44
      → ((n ≡ number) × (p ≡ place)) ↔ ((WrongBenchCount states → ⊥) × ((i : ℕ) × LowestRefusal s states t i number place))
  own_refusal o number place a b = (
    λ e. let h = to_own o number place a b e in (h.0, (h.1.0, lowest_given h.1.1)),
    λ h. from_own o number place (h.0, (h.1.0, lowest_taken a h.1.1)),
  )

  pub accepted_exactly : {n p : ℕ} → Outcome n p
      → (n ≡ 0) ↔ ((WrongBenchCount states → ⊥) × NoneRefusedBefore s states t (length states))
  accepted_exactly o = (λ e. let h = to_0 o e in (h.0, none_given h.1), λ h. from_0 o (h.0, none_taken h.1))

  to_20 : {n p : ℕ} → Outcome n p → n ≡ 20 → (WrongBenchCount states → ⊥) × ((i : ℕ) × TooShortFor s states t i)
  to_20 (wrong_count w) e = absurd (omega arith)
  to_20 (turned_down right i l) e =
      let q = (bench_numbers i).twenty.0 (l.number_is ∙ e) in
      (right, (i, record { there = l.there; free = q.0; short = (short_table s t i).0 q.1; none_before = none_given l.none_before }))
  to_20 (all_dealt right none) e = absurd (omega arith)

  from_20 : {n p : ℕ} → Outcome n p → (WrongBenchCount states → ⊥) × ((i : ℕ) × TooShortFor s states t i) → n ≡ 20
  from_20 o (right, (i, h)) =
      let e : (bench_report s states t i).number ≡ 20 = (bench_numbers i).twenty.1 (h.free, (short_table s t i).1 h.short) in
      let l : LowestReported i 20 (bench_report s states t i).place =
      record { there = h.there; refused = λ z. omega arith; number_is = e; place_is = refl; none_before = none_taken h.none_before } in
      (from_own o 20 (bench_report s states t i).place (right, (i, l))).0

  pub twenty_exactly : {n p : ℕ} → Outcome n p → (n ≡ 20) ↔ ((WrongBenchCount states → ⊥) × ((i : ℕ) × TooShortFor s states t i))
  twenty_exactly o = (to_20 o, from_20 o)
