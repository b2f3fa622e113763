-- The pass that scans a table state by state: which states have a filled cell.
use Rattle.std.proofs.Math.Nat.{mul-le-mul_right, le_of_mul-le-mul_right, lt_of_mul-lt-mul_right, mul-lt-mul_of_pos_right}
use Rattle.std.proofs.Common.{Ok, Err, ◌++◌, ◌≡◌, ℕ, ◌+◌, ◌*◌, ◌<◌, ◌≤◌, Bool, true, false, eqb, ◌≢◌, List, length, get_or, set, sym, refl, ap, ◌∙◌, subst, arith, length-drop, length-set, get_or-set_other, get_or-set_same}
use native.Mathlib.Decide.{dec_lt, ℕ_discrete}
use Rattle.sheet.specs.Bytes.{lowest}
use Rattle.sheet.proofs.Checks.Checks.{none_found, one_found}
use Rattle.rows.specs.Tables.{byte_at, filled, count}
use Rattle.rows.proofs.Tables.Counting.{count_none, count_some}
use Rattle.graph.specs.Explored.{StartsFrom}
use Rattle.judge.specs.Internal.Scanning.{scan_of}
use Rattle.judge.specs.Internal.Auditing.{ScannedRequires, FilledIn, StatesScanned, over, counted}
use Rattle.sheet.specs.declared.Refusal.{Refusal}
use Rattle.judge.proofs.Steps.ScanSteps.{Passed, passed_none, block_ends, passed_over, block_counted, passed_more, passed_few}

-- where some of the first n numbers pass a test, there is one
some_counted : (n : ℕ) (p : ℕ → Bool) → count n p ≢ 0 → (j : ℕ) × (j < n) × (p j ≡ true)
some_counted n p h = go (eqb (lowest p n) n) refl
  where
    go : (b : Bool) → eqb (lowest p n) n ≡ b → (j : ℕ) × (j < n) × (p j ≡ true)
    go true q = absurd (h (count_none n p ((none_found p n).0 q)))
    go false q = one_found p n q

-- the rows of the states before s are passed, and a rest of the cells is left
pub record StatesPassed (cells rest : List ℕ) (width total s : ℕ) (starts : List ℕ) : Type 0 where
  pub passed : Passed cells rest (s * width) total
  pub sized : length starts ≡ 128
  pub named : (u : ℕ) → StartsFrom starts u → (u < s) × FilledIn cells width u
  pub found : (u : ℕ) → u < s → FilledIn cells width u → StartsFrom starts u

pub states_start : {cells starts : List ℕ} {width : ℕ} → ScannedRequires cells width starts → StatesPassed cells cells width 0 0 starts
states_start {cells} asked = record {
  passed = subst (λ (k : ℕ). Passed cells cells k 0) (omega arith) (passed_none cells);
  sized = asked.sized;
  named = λ u h. absurd (asked.none u h);
  found = λ u h e. absurd (omega arith);
}

module _ {cells starts₀ rest starts : List ℕ} {width total s : ℕ} (asked : ScannedRequires cells width starts₀)
    (w : StatesPassed cells rest width total s starts) where
  next_place : s * width + width ≡ (s + 1) * width
  next_place = omega arith

  -- the row of a state more
  module _ (row rest' : List ℕ) (e : rest ≡ row ++ rest') (long : length row ≡ width) where
    row_inside : (s + 1) * width ≤ length cells
    row_inside = omega (arith, block_ends w.passed row rest' e, next_place)

    pub state_below : s < 128
    state_below = elim (dec_lt s asked.states) [
      | yes h ↦ omega (arith, asked.few_states)
      | no h ↦
          let past : asked.states * width ≤ s * width = mul-le-mul_right width (omega arith) in
          absurd (omega (arith, past, row_inside, next_place, asked.exact, asked.some_bytes))
    ]

    pub row_over : {x : Refusal} → Err x ≡ scan_of row → (starts' : List ℕ) → StatesScanned cells width (Err x) starts'
    row_over f starts' = let b = passed_over w.passed row rest' e f in over (ap Err b.0) b.1.0 b.1.1 b.1.2

    module _ {n : ℕ} (f : Ok n ≡ scan_of row) where
      passed_next : Passed cells rest' ((s + 1) * width) (total + n)
      passed_next = subst (λ (k : ℕ). Passed cells rest' k (total + n)) (ap (λ (k : ℕ). s * width + k) long ∙ next_place) (passed_more w.passed row rest' e f)

      pub row_total : total + n ≤ length cells
      row_total = passed_few passed_next

      counted_in : n ≡ count width (λ j. filled (byte_at cells (s * width + j)))
      counted_in = block_counted w.passed row rest' e f ∙ ap (λ (k : ℕ). count k (λ j. filled (byte_at cells (s * width + j)))) long

      -- it has no filled cell
      pub states_none : n ≡ 0 → StatesPassed cells rest' width (total + n) (s + 1) starts
      states_none z = record {
        passed = passed_next;
        sized = w.sized;
        named = λ u h. let q = w.named u h in (omega (arith, q.0), q.1);
        found = λ u h q. elim (dec_lt u s) [
          | yes l ↦ w.found u l q
          | no l ↦
              let k : u ≡ s = omega arith in
              let there : FilledIn cells width s = subst (FilledIn cells width) k q in
              absurd (count_some width (λ j. filled (byte_at cells (s * width + j))) there.0 there.1 there.2 (sym counted_in ∙ z))
        ];
      }

      -- it has one
      pub states_some : n ≢ 0 → StatesPassed cells rest' width (total + n) (s + 1) (set starts s 1)
      states_some z = record {
        passed = passed_next;
        sized = length-set starts s 1 ∙ w.sized;
        named = λ u h. elim (ℕ_discrete u s) [
          | yes k ↦
              (omega arith, subst (FilledIn cells width) (sym k) (some_counted width (λ j. filled (byte_at cells (s * width + j))) (λ e. z (counted_in ∙ e))))
          | no k ↦ let q = w.named u (λ e. h (get_or-set_other starts s u 1 0 k ∙ e)) in (omega (arith, q.0), q.1)
        ];
        found = λ u h q. elim (ℕ_discrete u s) [
          | yes k ↦
              let set_there : get_or (set starts s 1) u 0 ≡ 1 =
              ap (λ (x : ℕ). get_or (set starts s 1) x 0) k ∙ get_or-set_same starts s 1 0 (omega (arith, w.sized, state_below)) in
              λ e. omega (arith, set_there, e)
          | no k ↦ λ e. w.found u (omega arith) q (sym (get_or-set_other starts s u 1 0 k) ∙ e)
        ];
      }

  pub states_end : length rest < width → StatesScanned cells width (Ok total) starts
  states_end few =
      counted total refl (λ i h. w.passed.scanning.small i (omega (arith, whole)))
      (w.passed.scanning.counted ∙ ap (λ (k : ℕ). count k (λ i. filled (byte_at cells i))) whole)
      (λ u h. let q = w.named u h in (omega (arith, mul-lt-mul_of_pos_right {m = u} {n = s} {k = width} q.0 asked.some_bytes, whole), q.1))
      (λ u h. w.found u (lt_of_mul-lt-mul_right width (omega (arith, h, whole))))
    where
      inside : s * width ≤ length cells
      inside = w.passed.scanning.inside

      left : length cells < (s + 1) * width
      left = omega (arith, few, ap length w.passed.rest_is, length-drop (s * width) cells, inside, next_place)

      all : s ≡ asked.states
      all =
          let most : s ≤ asked.states = le_of_mul-le-mul_right {m = s} {n = asked.states} {k = width} (omega (arith, inside, asked.exact)) asked.some_bytes in
          let least : asked.states < s + 1 = lt_of_mul-lt-mul_right width (omega (arith, left, asked.exact)) in
          omega arith

      whole : s * width ≡ length cells
      whole = ap (λ (k : ℕ). k * width) all ∙ sym asked.exact
