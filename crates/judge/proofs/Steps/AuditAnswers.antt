-- An audit's answer from what its steps tell: the blocks of the states, the refusals, and yes or no.
use Rattle.std.proofs.Math.Nat.{lt_of_mul-lt-mul_right, mul-lt-mul_of_pos_right}
use Rattle.std.proofs.lemmas.Nat.{mul-lt}
use Rattle.std.proofs.Common.{◌≡◌, ℕ, ◌+◌, ◌*◌, ◌/◌, ◌%◌, ◌<◌, ◌≤◌, Bool, true, false, ◌≢◌, ◌↔◌, List, length, get_or, take, replicate, sym, refl, ap, ◌∙◌, mod-lt, mul_assoc, div-lt_iff_lt-mul, add-mul, mul-le-mul, div-add-mod', arith, length-take-le, get_or-take, eq-eqb, ne_eqb}
use native.Mathlib.Decide.{ℕ_discrete}
use lib.Arith.{digits_lt}
use Rattle.sheet.specs.Contents.{plan_body, rule_body}
use Rattle.sheet.specs.Plan.{state_count}
use Rattle.sheet.specs.Rule.{node_count}
use Rattle.sheet.specs.Reading.{sheet_check}
use Rattle.sheet.specs.declared.Refusal.{Refusal}
use Rattle.sheet.specs.declared.Refusal.TheVariants.{Loop as LoopRefusal, TableShort, TableByte}
use Rattle.std.specs.Prelude.{Ok, Err, Result}
use Rattle.sheet.proofs.Acceptance.Parts.{sheet_kept, few_states, few_nodes, rule_kept}
use Rattle.sheet.proofs.Checks.Bools.{differ, fails}
use Rattle.sheet.proofs.Checks.Checks.{with_report}
use Rattle.rows.specs.Tables.{byte_at, filled, count}
use Rattle.rows.proofs.Tables.Counting.{count_cong}
use Rattle.graph.specs.Explored.{StartsFrom}
use Rattle.graph.specs.LoopTest.{loop_free}
use Rattle.graph.proofs.Search.Colouring.{colourless}
use Rattle.judge.specs.declared.index.Index.{Index}
use Rattle.judge.specs.Cells.{Cell, cell, marks, position_of, cell_bytes, table_bytes, InTable}
use Rattle.judge.specs.StoredCount.{stored_count, filled_cells}
use Rattle.judge.specs.Querying.{bytes_right, count_right}
use Rattle.judge.specs.Auditing.{every_byte, byte_loop_free, audit_check, audit_right, audited_of, answer_audited, reported_audit, Audits}
use Rattle.judge.specs.AuditCorrect.{FilledCell}
use Rattle.judge.specs.Internal.Preparing.{StatesAsked, StatesTold, looped, told}
use Rattle.judge.specs.Internal.Preparing.{RuleTold}
use Rattle.judge.specs.Internal.Auditing.{table_passes, CellsRequires, ScannedRequires, StatesScanned, over, counted}
use Rattle.judge.proofs.Audit.FilledCells.{every_filled}
use Rattle.judge.proofs.Statements.CallNumbers.{clear_unread, clear_short, clear_fits}
use Rattle.judge.proofs.Cells.CellLayout.{position_inside}
use Rattle.judge.proofs.Steps.AuditCells.{all_cells}
use Rattle.judge.proofs.Steps.ScanSteps.{bytes_small, bytes_right_holds}

-- an accepted sheet, with what is prepared of its rule, and a table that is long enough
pub record LongTable (s : List ℕ) (index : Index) (t : List ℕ) (cells : ℕ) : Type 0 where
  pub accepted : sheet_check s ≡ Ok tt
  pub rule_told : RuleTold s index
  pub cells_are : cells ≡ cell_bytes s
  pub long : table_bytes s ≤ length t

-- all prepared for each state with a filled cell, no byte over 2, and so many cells filled
pub record AuditAsked (s : List ℕ) (index : Index) (t starts : List ℕ) (cells n : ℕ) : Type 0 where
  pub cells_asked : CellsRequires s index t starts
  pub cells_are : cells ≡ cell_bytes s
  pub long : table_bytes s ≤ length t
  pub small : (i : ℕ) → i < cell_bytes s → byte_at t i ≤ 2
  pub filled_are : n ≡ filled_cells s t

-- ---- refusals, and yes or no

module _ (s t : List ℕ) where
  refused : (x : Refusal) → audit_check s t ≡ Err x → Audits s t (Err x)
  unfolding audited_of
  refused x e = with_report reported_audit (sym (ap (answer_audited (audit_right s t)) e))

  pub audit_unread : (x : Refusal) → sheet_check s ≡ Err x → Audits s t (Err x)
  unfolding audit_check
  audit_unread x e = refused x (rw (clear_unread s t x e))

  module _ (accepted : sheet_check s ≡ Ok tt) where
    pub audit_short : length t < table_bytes s → Audits s t (Err TableShort)
    unfolding audit_check
    audit_short h = refused TableShort (rw (clear_short s t (sheet_kept s accepted) h))

    module _ (long : table_bytes s ≤ length t) where
      audit_over : (i : ℕ) → i < cell_bytes s → 2 < byte_at t i → Audits s t (Err TableByte)
      unfolding audit_check
      audit_over i h o =
          refused TableByte
          (rw (
            clear_fits s t (sheet_kept s accepted) long,
            fails (bytes_right (cell_bytes s) t) (λ q. absurd (omega (arith, bytes_small (cell_bytes s) t q i h))),
          ))

      module _ (small : (i : ℕ) → i < cell_bytes s → byte_at t i ≤ 2) where
        -- the test that no loop can be reached from a state with a filled cell, by cells
        free_filled : (every_byte s (byte_loop_free s t) ≡ true) ↔ ((c : Cell) → FilledCell s t c → loop_free (plan_body s) c.state ≡ true)
        free_filled = every_filled s t (λ c b. loop_free (plan_body s) c.state)

        audit_looping : (c : Cell) → FilledCell s t c → loop_free (plan_body s) c.state ≡ false → Audits s t (Err LoopRefusal)
        unfolding audit_check
        audit_looping c f q =
            refused LoopRefusal
            (rw (
              clear_fits s t (sheet_kept s accepted) long,
              bytes_right_holds (cell_bytes s) t small,
              fails (every_byte s (byte_loop_free s t)) (λ h. differ _ (free_filled.0 h c f) q),
            ))

        audit_judged : ((c : Cell) → FilledCell s t c → loop_free (plan_body s) c.state ≡ true) → {b : Bool} → b ≡ audit_right s t
            → Audits s t (Ok b)
        unfolding audited_of audit_check
        audit_judged free e =
            let passed : audit_check s t ≡ Ok tt = rw (clear_fits s t (sheet_kept s accepted) long, bytes_right_holds (cell_bytes s) t small, free_filled.1 free) in
            with_report reported_audit (ap Ok e ∙ sym (ap (answer_audited (audit_right s t)) passed))

-- ---- the last step

module _ {s : List ℕ} {index : Index} {t starts : List ℕ} {cells n : ℕ} (q : AuditAsked s index t starts cells n) where
  all_free : (c : Cell) → FilledCell s t c → loop_free (plan_body s) c.state ≡ true
  all_free c f =
      elim (ℕ_discrete (get_or starts c.state 0) 0) [
        | yes e ↦ absurd (differ _ f.is_filled
            (q.cells_asked.others c f.in_table.state_below f.in_table.node_below f.in_table.mark_below (λ h. h e)))
        | no e ↦ (q.cells_asked.started c.state e).loop_free_holds
      ]

  answers : {b : Bool} → b ≡ audit_right s t → Audits s t (Ok b)
  answers = audit_judged s t q.cells_asked.accepted q.long q.small all_free

  pub audit_miscounted : stored_count s t ≢ n → Audits s t (Ok false)
  unfolding audit_right count_right
  audit_miscounted h = answers (sym (rw (ne_eqb (stored_count s t) (filled_cells s t) (λ e. h (e ∙ sym q.filled_are)))))

  pub audit_passing : stored_count s t ≡ n → {b : Bool} → b ≡ table_passes s t → Audits s t (Ok b)
  unfolding audit_right count_right
  audit_passing e g = answers (g ∙ (all_cells s t ∙ sym (rw (eq-eqb (stored_count s t) (filled_cells s t) (e ∙ q.filled_are)))))

-- ---- the blocks of the states

module _ {s : List ℕ} {index : Index} {t : List ℕ} {cells : ℕ} (q : LongTable s index t cells) where
  abbrev S : ℕ
  S = state_count (plan_body s)

  abbrev N : ℕ
  N = node_count (rule_body s)

  abbrev M : ℕ
  M = marks (rule_body s)

  taken_length : length (take cells t) ≡ cell_bytes s
  taken_length = length-take-le cells t (omega (arith, q.cells_are, q.long)) ∙ q.cells_are

  taken_byte : (i : ℕ) → i < cell_bytes s → byte_at (take cells t) i ≡ byte_at t i
  taken_byte i h = get_or-take cells t i 0 (omega (arith, q.cells_are))

  pub block_small : N * M ≤ 448
  block_small = mul-le-mul {n₂ = 64} {m₂ = 7} (few_nodes s q.accepted) (omega (arith, (rule_kept s q.accepted).few_binders))

  -- a cell's byte stands in the block of its state
  in_block : (c : Cell) → InTable s c → position_of (rule_body s) c ≡ c.state * (N * M) + (c.node * M + c.mark)
  in_block c i = omega (arith, add-mul (c.state * N) c.node M, mul_assoc c.state N M)

  -- and a byte of a block is that of a cell of the state
  of_block : (u j : ℕ) → u < S → j < N * M → InTable s (cell (j % M) (j / M) u) × (position_of (rule_body s) (cell (j % M) (j / M) u) ≡ u * (N * M) + j)
  of_block u j h l =
      let some : 0 < M = omega arith in (
        record { mark_below = mod-lt j some; node_below = (div-lt_iff_lt-mul some).1 l; state_below = h },
        omega (arith, add-mul (u * N) (j / M) M, mul_assoc u N M, div-add-mod' j M),
      )

  module _ {width : ℕ} (ww : width ≡ N * M) where
    blocks : cell_bytes s ≡ S * width
    blocks = mul_assoc S N M ∙ ap (λ (k : ℕ). S * k) (sym ww)

    some_bytes : 0 < width
    some_bytes = omega (arith, ww, mul-lt 0 0 N M (rule_kept s q.accepted).some_nodes (omega arith))

    pub scan_asked : {starts : List ℕ} → starts ≡ replicate 128 0 → ScannedRequires (take cells t) width starts
    scan_asked e = record {
      states = S;
      some_bytes = some_bytes;
      exact = taken_length ∙ blocks;
      few_states = few_states s q.accepted;
      sized = ap length e;
      none = λ u h. h (ap (λ (l : List ℕ). get_or l u 0) e ∙ colourless 128 u);
    }

    -- what the pass over the blocks told: no byte over 2, the count, and that starts marks the states with filled cells
    pub record BlocksTold (starts : List ℕ) (n : ℕ) : Type 0 where
      pub small : (i : ℕ) → i < cell_bytes s → byte_at t i ≤ 2
      pub counts : n ≡ filled_cells s t
      pub marked : (u : ℕ) → StartsFrom starts u → (c : Cell) × FilledCell s t c × (c.state ≡ u)
      pub others : (c : Cell) → FilledCell s t c → StartsFrom starts c.state

    module _ {r : Result ℕ Refusal} {starts : List ℕ} (w : StatesScanned (take cells t) width r starts) where
      pub blocks_over : {x : Refusal} → r ≡ Err x → Audits s t (Err x)
      blocks_over {x} e = go w
        where
          go : StatesScanned (take cells t) width r starts → Audits s t (Err x)
          go (over f i h g) =
              let l : i < cell_bytes s = omega (arith, taken_length) in
              let same : x ≡ TableByte = cc in
              rw same (audit_over s t q.accepted q.long i l (omega (arith, taken_byte i l)))
          go (counted n f small k named found) = absurd (cc)

      pub blocks_told : {n : ℕ} → r ≡ Ok n → BlocksTold starts n
      blocks_told {n} e = go w
        where
          go : StatesScanned (take cells t) width r starts → BlocksTold starts n
          go (over f i h g) = absurd (cc)
          go (counted k f small g named found) = record {
            small = λ i h. omega (arith, small i (omega (arith, taken_length)), taken_byte i h);
            counts =
                let same : n ≡ k = cc in
                same ∙ (g ∙ (ap (λ (m : ℕ). count m (λ i. filled (byte_at (take cells t) i))) taken_length
                ∙ count_cong (cell_bytes s) (λ i. filled (byte_at (take cells t) i)) (λ i. filled (byte_at t i)) (λ i h. ap filled (taken_byte i h))));
            marked = λ u h.
                let m = named u h in
                let b = of_block u m.1.0 (lt_of_mul-lt-mul_right width (omega (arith, m.0, taken_length, blocks))) (omega (arith, m.1.1, ww)) in
                let c = cell (m.1.0 % M) (m.1.0 / M) u in
                let place : position_of (rule_body s) c ≡ u * width + m.1.0 = b.1 ∙ ap (λ (x : ℕ). u * x + m.1.0) (sym ww) in (
                  c,
                  record {
                    in_table = b.0;
                    is_filled =
                        ap filled (sym (taken_byte (position_of (rule_body s) c) (position_inside s c b.0)) ∙ ap (byte_at (take cells t)) place) ∙ m.1.2;
                  },
                  refl,
                );
            others = λ c f.
                let i = f.in_table in
                let place : c.state * width + (c.node * M + c.mark) ≡ position_of (rule_body s) c =
                ap (λ (x : ℕ). c.state * x + (c.node * M + c.mark)) ww ∙ sym (in_block c i) in
                found c.state (omega (arith, mul-lt-mul_of_pos_right {m = c.state} {n = S} {k = width} i.state_below some_bytes, taken_length, blocks)) (
                  c.node * M + c.mark,
                  omega (arith, digits_lt i.node_below i.mark_below, ww),
                  ap filled (ap (byte_at (take cells t)) place ∙ taken_byte (position_of (rule_body s) c) (position_inside s c i)) ∙ f.is_filled,
                );
          }

    module _ {starts : List ℕ} {n : ℕ} (b : BlocksTold starts n) where
      pub states_asked : StatesAsked s index starts
      states_asked = record {
        accepted = q.accepted;
        rule_told = q.rule_told;
        starts_below = λ u h. let m = b.marked u h in omega (arith, m.1.in_table.state_below, m.2);
      }

      -- a loop can be reached from one of the states
      pub blocks_looped : {index' : Index} {free : Bool} → free ≡ false → StatesTold s starts index' free → Audits s t (Err LoopRefusal)
      blocks_looped e (looped _ u h l) =
          let m = b.marked u h in
          audit_looping s t q.accepted q.long b.small m.0 m.1 (ap (loop_free (plan_body s)) m.2 ∙ l)
      blocks_looped e (told f rule states) = absurd (differ _ f e)

      pub blocks_free : {index' : Index} {free : Bool} → free ≡ true → StatesTold s starts index' free → AuditAsked s index' t starts cells n
      blocks_free e (looped f u h l) = absurd (differ _ e f)
      blocks_free e (told _ rule states) = record {
        cells_asked = record {
          accepted = q.accepted;
          started = λ u h. record {
            accepted = q.accepted;
            rule_told = rule;
            prepared = (states u h).1;
            state_below = states_asked.starts_below u h;
            loop_free_holds = (states u h).0;
            room = omega (arith, q.long);
            small = b.small;
          };
          others = λ c hs hn hm h. fails _ (λ f.
              h (b.others c (record { in_table = record { mark_below = hm; node_below = hn; state_below = hs }; is_filled = f })));
        };
        cells_are = q.cells_are;
        long = q.long;
        small = b.small;
        filled_are = b.counts;
      }
