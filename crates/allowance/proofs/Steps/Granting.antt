-- What the loop over the granted benches shows.
use Prim.Native.Nat.{ℕ, suc, ◌+◌, ◌-◌, ◌*◌, ◌<◌, ◌≤◌}
use mathlib.Core.Path.{◌≡◌, refl, sym, ap, ap₂, ◌∙◌}
use mathlib.Core.Bool.{Bool, true, false}
use mathlib.Core.List.{List, ◌++◌, append_assoc}
use native.Mathlib.Omega.{arith}
use native.Mathlib.Decide.{ℕ_discrete}
use lib.ListN.{length, get_or, set, take, drop, length-append, length-set, length-take, length-drop, length-map, get_or-map, take-append-drop}
use lib.Seq.{get_or-set_same, get_or-set_other, drop-drop, take_at, drop_at}
use borrow.Author.Tests.{lt-ltb, le-ltb}
use Rattle.sheet.specs.Bytes.{byte, slice, pick}
use Rattle.sheet.specs.RunningCalls.{AllBytes}
use Rattle.judge.specs.Cells.{table_bytes}
use Rattle.judge.specs.Querying.{reported_query, queried_of, table_queried}
use Rattle.std.specs.Prelude.{Ok}
use Rattle.judge.specs.Querying.{Queried}
use Rattle.judge.proofs.Statements.QueryCorrect.{queries_correct}
use Rattle.allowance.specs.Dealing.{of_bench}
use Rattle.allowance.specs.Granting.{end_to_end, queried_bench, short_bench, no_bench, bench_table, bench_queried, bench_report, need_of}
use Rattle.allowance.specs.Granting.{is_short, bench_of, table_of, tables_granted}
use Rattle.allowance.specs.Internal.Copies.{with_part}
use Rattle.allowance.specs.Internal.Benches.{grants_in, QueriesRequire, QueriesBenches}
use Rattle.allowance.specs.declared.Bench.{Bench}
use Rattle.allowance.proofs.Lists.ForBenches.{for_first, for_each}
use Rattle.allowance.proofs.Tables.Answers.{need_count, need_of_bench}
use Rattle.allowance.proofs.Tables.EndToEnd.{one_more_table}
use Rattle.allowance.proofs.Tables.TablesAfter.{in_buffer}
use Rattle.allowance.proofs.Tables.NothingFilled.{part_bytes, nothing_filled}

module _ (s states t grants : List ℕ) (start : List Bench) where
  abbrev size : ℕ
  size = table_bytes s

  abbrev table_now : ℕ → List ℕ
  table_now = table_of s states t grants

  abbrev after_tables : List ℕ
  after_tables = drop (length states * size) t

  -- the benches below i are done
  pub record Going (benches : List Bench) (u : List ℕ) (i : ℕ) : Type 0 where
    pub within : i ≤ length states
    pub room : length benches ≡ length states
    pub done : (j : ℕ) → j < i → get_or benches j no_bench ≡ bench_of s states t grants j
    pub rest : (j : ℕ) → i ≤ j → get_or benches j no_bench ≡ get_or start j no_bench
    pub length_same : length u ≡ length t
    pub ahead : drop (i * size) u ≡ drop (i * size) t
    pub behind : tables_granted s states t grants ≡ take (i * size) u ++ end_to_end table_now (length states - i) i after_tables

  pub going_start : length start ≡ length states → Going start t 0
  unfolding tables_granted
  going_start e =
      let z : 0 * size ≡ 0 = omega arith in
      let k : length states ≡ length states - 0 = omega arith in
      record {
        within = omega arith;
        room = e;
        done = λ j h. absurd (omega arith);
        rest = λ j h. refl;
        length_same = refl;
        ahead = refl;
        behind = ap (λ (n : ℕ). end_to_end table_now n 0 after_tables) k
            ∙ ap (λ (n : ℕ). take n t ++ end_to_end table_now (length states - 0) 0 after_tables) (sym z);
      }

  one_table : (count i : ℕ) → end_to_end table_now (suc count) i after_tables ≡ table_now i ++ end_to_end table_now count (i + 1) after_tables
  unfolding end_to_end
  one_table count i = refl

  module _ {benches : List Bench} {u : List ℕ} {i : ℕ} (w : Going benches u i) (h : i < length states) where
    -- bench i is given these results, and its table is that after the call
    next : {b : Bench} {v : List ℕ} → b ≡ bench_of s states t grants i → i * size + size ≤ length t → length (table_now i) ≡ size
        → v ≡ with_part u (i * size) size (table_now i) → Going (set benches i b) v (i + 1)
    next {b} {v} e long sized is = record {
      within = omega arith;
      room = length-set benches i b ∙ w.room;
      done = λ j l. elim (ℕ_discrete j i) [
        | yes same ↦ ap (λ (x : ℕ). get_or (set benches i b) x no_bench) same ∙ get_or-set_same benches i b no_bench (omega (arith, w.room))
            ∙ e ∙ ap (bench_of s states t grants) (sym same)
        | no other ↦ get_or-set_other benches i j b no_bench other ∙ w.done j (omega arith)
      ];
      rest = λ j l. get_or-set_other benches i j b no_bench (λ q. omega arith) ∙ w.rest j (omega arith);
      length_same = same_length;
      ahead = ap (λ (n : ℕ). drop n v) place ∙ ap (drop (i * size + size)) cut ∙ drop_at front (drop (i * size + size) u) (i * size + size) front_length
          ∙ sym (drop-drop size (i * size) u) ∙ ap (drop size) w.ahead ∙ drop-drop size (i * size) t
          ∙ ap (λ (n : ℕ). drop n t) (sym place);
      behind = w.behind ∙ ap (λ (l : List ℕ). take (i * size) u ++ l) (ap (λ (n : ℕ). end_to_end table_now n i after_tables) count ∙ one_table (length states - (i + 1)) i)
          ∙ sym (append_assoc (take (i * size) u) (table_now i) (end_to_end table_now (length states - (i + 1)) (i + 1) after_tables))
          ∙ ap (λ (l : List ℕ). l ++ end_to_end table_now (length states - (i + 1)) (i + 1) after_tables) (sym taken);
    }
      where
        place : (i + 1) * size ≡ i * size + size
        place = omega (arith, one_more_table i size)

        count : length states - i ≡ suc (length states - (i + 1))
        count = omega arith

        front : List ℕ
        front = take (i * size) u ++ table_now i

        front_length : length front ≡ i * size + size
        front_length = omega (arith, length-append (take (i * size) u) (table_now i), length-take (i * size) u, w.length_same, sized)

        cut : v ≡ front ++ drop (i * size + size) u
        cut = is ∙ sym (append_assoc (take (i * size) u) (table_now i) (drop (i * size + size) u))

        taken : take ((i + 1) * size) v ≡ front
        taken = ap (λ (n : ℕ). take n v) place ∙ ap (take (i * size + size)) cut ∙ take_at front (drop (i * size + size) u) (i * size + size) front_length

        same_length : length v ≡ length t
        same_length =
            let e : length v ≡ length (front ++ drop (i * size + size) u) = ap (length {A = ℕ}) cut in
            omega (arith, e, length-append front (drop (i * size + size) u), front_length, length-drop (i * size + size) u, w.length_same)

    -- the bench's part of the buffer is its table as it was
    its_table : slice u (i * size) size ≡ bench_table s t i
    its_table = ap (take size) w.ahead

    -- the results and the table of bench i, by whether it is short
    bench_by : {x : Bool} → is_short s states t grants i ≡ x → bench_of s states t grants i
        ≡ pick x (short_bench (need_of s states t i) (of_bench grants i))
        (queried_bench (need_of s states t i) (of_bench grants i) (bench_report s states t i))
    bench_by e =
        ap (λ (y : Bool). pick y (short_bench (need_of s states t i) (of_bench grants i))
        (queried_bench (need_of s states t i) (of_bench grants i) (bench_report s states t i))) e

    table_by_lem : {x : Bool} → is_short s states t grants i ≡ x
        → table_now i ≡ pick x (bench_table s t i) (table_queried s (byte states i) (bench_table s t i))
    table_by_lem e = ap (λ (y : Bool). pick y (bench_table s t i) (table_queried s (byte states i) (bench_table s t i))) e

    table_size_holds : i * size + size ≤ length t → length (bench_table s t i) ≡ size
    table_size_holds long = omega (arith, length-take size (drop (i * size) t), length-drop (i * size) t)

    -- a table that stays as it was
    part_kept : table_now i ≡ bench_table s t i → u ≡ with_part u (i * size) size (table_now i)
    part_kept same =
        sym (take-append-drop (i * size) u)
        ∙ ap (λ (l : List ℕ). take (i * size) u ++ l)
        (sym (take-append-drop size (drop (i * size) u)) ∙ ap (λ (l : List ℕ). slice u (i * size) size ++ l) (drop-drop size (i * size) u))
        ∙ ap (λ (l : List ℕ). take (i * size) u ++ (l ++ drop (i * size + size) u)) (its_table ∙ sym same)

    next_kept : {b : Bench} → b ≡ bench_of s states t grants i → i * size + size ≤ length t → table_now i ≡ bench_table s t i
        → Going (set benches i b) u (i + 1)
    next_kept e long same = next e long (ap (length {A = ℕ}) same ∙ table_size_holds long) (part_kept same)

    next_short : {b : Bench} → b ≡ short_bench (need_of s states t i) (of_bench grants i) → i * size + size ≤ length t
        → of_bench grants i < need_of s states t i → Going (set benches i b) u (i + 1)
    next_short e long less = next_kept (e ∙ sym (bench_by short)) long (table_by_lem short)
      where
        short : is_short s states t grants i ≡ true
        short = lt-ltb (of_bench grants i) (need_of s states t i) less

    -- the query of a bench with a need of 0 is known, and changes nothing
    next_idle : {b : Bench} → b ≡ queried_bench 0 (of_bench grants i) (reported_query (Ok (record { verdict = (bench_report s states t i).verdict; visits = 0 })))
        → i * size + size ≤ length t → need_of s states t i ≡ 0
        → table_queried s (byte states i) (bench_table s t i) ≡ bench_table s t i → Going (set benches i b) u (i + 1)
    next_idle e long none same = next_kept (e ∙ result ∙ sym (bench_by whole)) long (table_by_lem whole ∙ same)
      where
        whole : is_short s states t grants i ≡ false
        whole = le-ltb (of_bench grants i) (need_of s states t i) (omega (arith, none))

        result : queried_bench 0 (of_bench grants i) (reported_query (Ok (record { verdict = (bench_report s states t i).verdict; visits = 0 })))
            ≡ queried_bench (need_of s states t i) (of_bench grants i) (bench_report s states t i)
        result =
            ap (λ (m : ℕ). queried_bench m (of_bench grants i) (reported_query (Ok (record { verdict = (bench_report s states t i).verdict; visits = m })))) (sym none)

    next_queried : {b : Bench} {v : List ℕ} {q : Queried} → q ≡ queried_of s (byte states i) (slice u (i * size) size)
        → b ≡ queried_bench (need_of s states t i) (of_bench grants i) (reported_query q) → i * size + size ≤ length t
        → need_of s states t i ≤ of_bench grants i → length (table_queried s (byte states i) (bench_table s t i)) ≡ length (bench_table s t i)
        → v ≡ with_part u (i * size) size (table_queried s (byte states i) (slice u (i * size) size)) → Going (set benches i b) v (i + 1)
    next_queried {b} {v} {q} a e long most kept is =
        next result long (ap (length {A = ℕ}) after ∙ kept ∙ table_size_holds long)
        (is ∙ ap (with_part u (i * size) size) (ap (table_queried s (byte states i)) its_table ∙ sym after))
      where
        whole : is_short s states t grants i ≡ false
        whole = le-ltb (of_bench grants i) (need_of s states t i) most

        after : table_now i ≡ table_queried s (byte states i) (bench_table s t i)
        after = table_by_lem whole

        asked : q ≡ queried_of s (byte states i) (bench_table s t i)
        asked = a ∙ ap (queried_of s (byte states i)) its_table

        result : b ≡ bench_of s states t grants i
        result =
            e ∙ ap (λ (x : Queried). queried_bench (need_of s states t i) (of_bench grants i) (reported_query x)) asked ∙ sym (bench_by whole)

  pub going_end : {benches : List Bench} {u : List ℕ} {i : ℕ} → Going benches u i → length states ≤ i → QueriesBenches s states t grants benches u
  unfolding end_to_end
  going_end {benches} {u} {i} w h =
      (for_each (bench_of s states t grants) (length states) benches no_bench w.room (λ j l. w.done j (omega arith)), sym (w.behind ∙ past))
    where
      at_end : i ≡ length states
      at_end = omega (arith, w.within)

      past : take (i * size) u ++ end_to_end table_now (length states - i) i after_tables ≡ u
      past =
          let z : length states - i ≡ 0 = omega arith in
          ap (λ (n : ℕ). take (i * size) u ++ end_to_end table_now n i after_tables) z
          ∙ ap (λ (n : ℕ). take (i * size) u ++ drop (n * size) t) (sym at_end)
          ∙ ap (λ (l : List ℕ). take (i * size) u ++ l) (sym w.ahead)
          ∙ take-append-drop (i * size) u

-- ---- with the size of a table and the needs at hand

module _ {s states t : List ℕ} {n : ℕ} {start : List Bench} (r : QueriesRequire s states t n start) where
  pub bench_each : length start ≡ length states
  bench_each = sym (length-map start (λ b. b.need)) ∙ ap (length {A = ℕ}) r.needed ∙ need_count s states t

  pub in_room : {i : ℕ} → i < length states → i * n + n ≤ length t
  in_room {i} h =
      omega (arith, one_more_table i n, ap (λ (m : ℕ). (i + 1) * m) r.sized, in_buffer s states t r.none_refused i h)

  sized_room : {i : ℕ} → i < length states → i * table_bytes s + table_bytes s ≤ length t
  sized_room {i} h = omega (arith, in_room h, ap (λ (m : ℕ). i * m + m) r.sized)

  module _ {benches : List Bench} {u : List ℕ} {i : ℕ} (w : Going s states t (grants_in start) start benches u i) (h : i < length states) where
    pub room_now : i * n + n ≤ length u
    room_now = omega (arith, in_room h, w.length_same)

    -- what stands in the place of bench i
    module _ {bench : Bench} (is : bench ≡ get_or benches i no_bench) where
      before : bench ≡ get_or start i no_bench
      before = is ∙ w.rest i (omega arith)

      need_at : bench.need ≡ need_of s states t i
      need_at =
          ap (λ (b : Bench). b.need) before ∙ sym (get_or-map (λ b. b.need) start i no_bench) ∙ ap (λ (l : List ℕ). of_bench l i) r.needed
          ∙ need_of_bench s states t i h

      grant_at : bench.grant ≡ of_bench (grants_in start) i
      grant_at = ap (λ (b : Bench). b.grant) before ∙ sym (get_or-map (λ b. b.grant) start i no_bench)

      verdict_at : bench.verdict ≡ (bench_report s states t i).verdict
      verdict_at =
          ap (λ (b : Bench). b.verdict) before ∙ sym (get_or-map (λ b. b.verdict) start i no_bench) ∙ ap (λ (l : List Bool). get_or l i false) r.judged
          ∙ for_first (λ j. (bench_report s states t j).verdict) (length states) i false h

      pub turn_short : {b : Bench} → b ≡ short_bench bench.need bench.grant → bench.grant < bench.need
          → Going s states t (grants_in start) start (set benches i b) u (i + 1)
      turn_short e less =
          next_short s states t (grants_in start) start w h (e ∙ ap₂ short_bench need_at grant_at) (sized_room h) (omega (arith, need_at, grant_at))

      pub turn_idle : {b : Bench} → AllBytes t → b ≡ queried_bench 0 bench.grant (reported_query (Ok (record { verdict = bench.verdict; visits = 0 })))
          → bench.need ≡ 0 → Going s states t (grants_in start) start (set benches i b) u (i + 1)
      turn_idle bytes e none =
          next_idle s states t (grants_in start) start w h
          (e ∙ ap₂ (λ (g : ℕ) (v : Bool). queried_bench 0 g (reported_query (Ok (record { verdict = v; visits = 0 })))) grant_at verdict_at)
          (sized_room h) need_none
          (nothing_filled s (byte states i) (bench_table s t i) (part_bytes t bytes (i * table_bytes s) (table_bytes s))
          (r.none_refused i h) need_none)
        where
          need_none : need_of s states t i ≡ 0
          need_none = omega (arith, need_at)

      pub turn_queried : {b : Bench} {v : List ℕ} {q : Queried} → q ≡ queried_of s (byte states i) (slice u (i * n) n)
          → b ≡ queried_bench bench.need bench.grant (reported_query q) → bench.need ≤ bench.grant
          → v ≡ with_part u (i * n) n (table_queried s (byte states i) (slice u (i * n) n))
          → Going s states t (grants_in start) start (set benches i b) v (i + 1)
      turn_queried {b} {v} {q} a e most is =
          next_queried s states t (grants_in start) start w h (a ∙ ap (λ (m : ℕ). queried_of s (byte states i) (slice u (i * m) m)) r.sized)
          (e ∙ ap₂ (λ (m g : ℕ). queried_bench m g (reported_query q)) need_at grant_at) (sized_room h) (omega (arith, need_at, grant_at))
          (queries_correct.judged s (byte states i) (bench_table s t i) (bench_queried s states t i) (table_queried s (byte states i) (bench_table s t i))
          (refl, (refl, refl)) (r.none_refused i h)).length_kept
          (is ∙ ap (λ (m : ℕ). with_part u (i * m) m (table_queried s (byte states i) (slice u (i * m) m))) r.sized)
