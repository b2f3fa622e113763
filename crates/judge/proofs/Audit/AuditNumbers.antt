-- Which number a call of `audit` gives and when it says yes: the cases, one after the other.
use Rattle.std.proofs.Common.{◌≡◌, ℕ, ◌<◌, Bool, true, false, ◌⊎◌, List, length, sym, refl, ap, ◌∙◌, inl, inr, true≢false, arith}
use native.Mathlib.Decide.{dec_lt}
use Rattle.sheet.specs.Contents.{plan_body}
use Rattle.sheet.specs.Refusals.{number_of}
use Rattle.sheet.specs.Reading.{sheet_check}
use Rattle.sheet.specs.RefusalOrder.{GivenInOrder}
use Rattle.sheet.specs.WellFormed.{WellFormedSheet}
use Rattle.sheet.specs.declared.Refusal.{Refusal}
use Rattle.sheet.specs.declared.Refusal.TheVariants.{Loop as LoopRefusal, TableShort, TableByte}
use Rattle.std.specs.Prelude.{Err, Ok}
use Rattle.sheet.specs.Refusals.{Check}
use Rattle.sheet.proofs.Acceptance.Order.{given_in_order}
use Rattle.sheet.proofs.Acceptance.Numbers.{low_refusal, refused_number}
use Rattle.sheet.proofs.Acceptance.Sheet.{accepted_iff, not_refused}
use Rattle.graph.specs.Loops.{LoopReachable}
use Rattle.graph.specs.LoopTest.{loop_free}
use Rattle.graph.specs.Successors.{successors}
use Rattle.graph.proofs.Looptest.LoopFree.{free_exactly_at, loop_reachable}
use Rattle.judge.specs.Cells.{Cell, cell_bytes, table_bytes}
use Rattle.judge.specs.Clearing.{clear_check}
use Rattle.judge.specs.Querying.{bytes_right}
use Rattle.judge.specs.Auditing.{every_byte, byte_loop_free, audit_check, audit_right, answer_audited, audited_of, AuditReport, reported_audit, Audits}
use Rattle.judge.specs.AuditCorrect.{FilledCell, TableLong, BytesSmall, AuditNotRefused, AuditAnswered}
use Rattle.judge.specs.Auditing.{Audited}
use Rattle.judge.proofs.Statements.CallNumbers.{clear_unread, clear_short, clear_fits}
use Rattle.judge.proofs.Steps.ScanSteps.{bytes_small, byte_over}
use Rattle.judge.proofs.Audit.FilledCells.{every_filled, some_filled, right_exactly, miscounted_wrong}

module _ (s t : List ℕ) where
  -- the check, by what each test gives
  clearing_stops : (x : Refusal) → clear_check s t ≡ Err x → audit_check s t ≡ Err x
  unfolding audit_check
  clearing_stops x e = rw e

  long_passes : TableLong s t → clear_check s t ≡ Ok tt
  long_passes q = clear_fits s t q.accepted q.long

  byte_stops : TableLong s t → bytes_right (cell_bytes s) t ≡ false → audit_check s t ≡ Err TableByte
  unfolding audit_check
  byte_stops q h = rw (long_passes q, h)

  loop_stops : TableLong s t → bytes_right (cell_bytes s) t ≡ true → every_byte s (byte_loop_free s t) ≡ false → audit_check s t ≡ Err LoopRefusal
  unfolding audit_check
  loop_stops q h f = rw (long_passes q, h, f)

  none_stops : TableLong s t → bytes_right (cell_bytes s) t ≡ true → every_byte s (byte_loop_free s t) ≡ true → audit_check s t ≡ Ok tt
  unfolding audit_check
  none_stops q h f = rw (long_passes q, h, f)

  module _ (r : Audited) (q : Audits s t r) where
    audited : (c : Check) → audit_check s t ≡ c → reported_audit r ≡ reported_audit (answer_audited (audit_right s t) c)
    unfolding audited_of
    audited c e = q.1 ∙ ap (λ (x : Check). reported_audit (answer_audited (audit_right s t) x)) e

    number_of_lem : {x : AuditReport} → reported_audit r ≡ x → (reported_audit r).number ≡ x.number
    number_of_lem e = ap (λ (x : AuditReport). x.number) e

    place_of : {x : AuditReport} → reported_audit r ≡ x → (reported_audit r).place ≡ x.place
    place_of e = ap (λ (x : AuditReport). x.place) e

    answer_of_lem : {x : AuditReport} → reported_audit r ≡ x → (reported_audit r).answer ≡ x.answer
    answer_of_lem e = ap (λ (x : AuditReport). x.answer) e

    abbrev number : ℕ
    number = (reported_audit r).number

    -- a refused call gives no
    denied : {x : Refusal} → audit_check s t ≡ Err x → (reported_audit r).answer ≡ true → ⊥
    denied {x} e h = true≢false (sym h ∙ answer_of_lem (audited (Err x) e))

    unread_stops : (x : Refusal) → sheet_check s ≡ Err x → audit_check s t ≡ Err x
    unread_stops x e = clearing_stops x (clear_unread s t x e)

    in_rising_order : (sheet_check s ≡ Ok tt → (number ≡ 0) ⊎ (10 < number)) → GivenInOrder s number (reported_audit r).place
    in_rising_order = given_in_order s number (reported_audit r).place
        (λ x e. let is = audited (Err x) (unread_stops x e) in (number_of_lem is, place_of is))

    when_unread : (x : Refusal) → sheet_check s ≡ Err x → AuditAnswered s t r
    when_unread x e =
        let n : number ≡ number_of x = number_of_lem (audited (Err x) (unread_stops x e)) in
        let refused : WellFormedSheet s → ⊥ = not_refused s e in
        record {
          unreadable = λ y f. audited (Err y) (unread_stops y f);
          in_order = in_rising_order (λ f. absurd (refused ((accepted_iff s).0 f)));
          twenty = (λ h. absurd (omega (arith, low_refusal s e)), λ h. absurd (refused h.0));
          twenty_one = (λ h. absurd (omega (arith, low_refusal s e)), λ h. absurd (refused h.0.accepted));
          twelve = (λ h. absurd (omega (arith, low_refusal s e)), λ h. absurd (refused h.0.there.accepted));
          none = (λ h. absurd (omega (arith, refused_number x)), λ h. absurd (refused h.bytes.there.accepted));
          yes_exactly = (λ h. absurd (denied (unread_stops x e) h), λ h. absurd (refused h.0.bytes.there.accepted));
          wrong_count = λ h. absurd (refused h.bytes.there.accepted);
          place = λ k. absurd (refused k);
        }

    when_short : WellFormedSheet s → length t < table_bytes s → AuditAnswered s t r
    when_short k h =
        let e = clearing_stops TableShort (clear_short s t k h) in
        let n : number ≡ 20 = number_of_lem (audited (Err TableShort) e) in
        record {
          unreadable = λ y f. absurd (not_refused s f k);
          in_order = in_rising_order (λ f. inr (omega arith));
          twenty = (λ g. (k, h), λ g. n);
          twenty_one = (λ g. absurd (omega arith), λ g. absurd (omega (arith, g.0.long)));
          twelve = (λ g. absurd (omega arith), λ g. absurd (omega (arith, g.0.there.long)));
          none = (λ g. absurd (omega arith), λ g. absurd (omega (arith, g.bytes.there.long)));
          yes_exactly = (λ g. absurd (denied e g), λ g. absurd (omega (arith, g.0.bytes.there.long)));
          wrong_count = λ g. absurd (omega (arith, g.bytes.there.long));
          place = λ g. place_of (audited (Err TableShort) e);
        }

    when_byte_over : TableLong s t → bytes_right (cell_bytes s) t ≡ false → AuditAnswered s t r
    when_byte_over q h =
        let e = byte_stops q h in
        let n : number ≡ 21 = number_of_lem (audited (Err TableByte) e) in
        let over = byte_over (cell_bytes s) t h in
        let not-small : BytesSmall s t → ⊥ = λ g. omega (arith, g.small over.0 over.1, over.2) in
        record {
          unreadable = λ y f. absurd (not_refused s f q.accepted);
          in_order = in_rising_order (λ f. inr (omega arith));
          twenty = (λ g. absurd (omega arith), λ g. absurd (omega (arith, g.1, q.long)));
          twenty_one = (λ g. (q, over), λ g. n);
          twelve = (λ g. absurd (omega arith), λ g. absurd (not-small g.0));
          none = (λ g. absurd (omega arith), λ g. absurd (not-small g.bytes));
          yes_exactly = (λ g. absurd (denied e g), λ g. absurd (not-small g.0.bytes));
          wrong_count = λ g. absurd (not-small g.bytes);
          place = λ g. place_of (audited (Err TableByte) e);
        }

    when_looping : BytesSmall s t → audit_check s t ≡ Err LoopRefusal → (c : Cell) → FilledCell s t c → LoopReachable (successors (plan_body s)) c.state
        → AuditAnswered s t r
    when_looping q e c f w =
        let n : number ≡ 12 = number_of_lem (audited (Err LoopRefusal) e) in
        record {
          unreadable = λ y g. absurd (not_refused s g q.there.accepted);
          in_order = in_rising_order (λ g. inr (omega arith));
          twenty = (λ g. absurd (omega arith), λ g. absurd (omega (arith, g.1, q.there.long)));
          twenty_one = (λ g. absurd (omega arith), λ g. absurd (omega (arith, q.small g.1.0 g.1.1, g.1.2)));
          twelve = (λ g. (q, (c, f, w)), λ g. n);
          none = (λ g. absurd (omega arith), λ g. absurd (g.none c f w));
          yes_exactly = (λ g. absurd (denied e g), λ g. absurd (g.0.none c f w));
          wrong_count = λ g. absurd (g.none c f w);
          place = λ g. place_of (audited (Err LoopRefusal) e);
        }

    when_answered : AuditNotRefused s t → audit_check s t ≡ Ok tt → AuditAnswered s t r
    when_answered q e =
        let n : number ≡ 0 = number_of_lem (audited (Ok tt) e) in
        let a : (reported_audit r).answer ≡ audit_right s t = answer_of_lem (audited (Ok tt) e) in
        record {
          unreadable = λ y g. absurd (not_refused s g q.bytes.there.accepted);
          in_order = in_rising_order (λ g. inl n);
          twenty = (λ g. absurd (omega arith), λ g. absurd (omega (arith, g.1, q.bytes.there.long)));
          twenty_one = (λ g. absurd (omega arith), λ g. absurd (omega (arith, q.bytes.small g.1.0 g.1.1, g.1.2)));
          twelve = (λ g. absurd (omega arith), λ g. absurd (q.none g.1.0 g.1.1 g.1.2));
          none = (λ g. q, λ g. n);
          yes_exactly = (λ g. (q, (right_exactly s t).0 (sym a ∙ g)), λ g. a ∙ (right_exactly s t).1 g.1);
          wrong_count = λ g h. audited (Ok tt) e ∙ ap (λ (b : Bool). record { number = 0; place = 0; answer = b }) (miscounted_wrong s t h);
          place = λ g. place_of (audited (Ok tt) e);
        }

    loop_cases : TableLong s t → bytes_right (cell_bytes s) t ≡ true → (b : Bool) → every_byte s (byte_loop_free s t) ≡ b → AuditAnswered s t r
    loop_cases l h true f = when_answered (record {
      bytes = record { there = l; small = bytes_small (cell_bytes s) t h };
      none = λ c g. (free_exactly_at (plan_body s) l.accepted.bodies_kept.plan_kept c.state g.in_table.state_below).0
          ((every_filled s t (λ d b. loop_free (plan_body s) d.state)).0 f c g);
    }) (none_stops l h f)
    loop_cases l h false f =
        let c = some_filled s t (λ d b. loop_free (plan_body s) d.state) f in
        when_looping (record { there = l; small = bytes_small (cell_bytes s) t h }) (loop_stops l h f) c.0 c.1
        (loop_reachable (plan_body s) l.accepted.bodies_kept.plan_kept c.0.state c.1.in_table.state_below c.2)

    byte_cases : TableLong s t → (b : Bool) → bytes_right (cell_bytes s) t ≡ b → AuditAnswered s t r
    byte_cases l true h = loop_cases l h (every_byte s (byte_loop_free s t)) refl
    byte_cases l false h = when_byte_over l h

    sheet_cases : (c : Check) → sheet_check s ≡ c → AuditAnswered s t r
    sheet_cases (Ok tt) e = elim (dec_lt (length t) (table_bytes s)) [
      | yes h ↦ when_short ((accepted_iff s).0 e) h
      | no h ↦ byte_cases (record { accepted = (accepted_iff s).0 e; long = omega arith }) (bytes_right (cell_bytes s) t) refl
    ]
    sheet_cases (Err x) e = when_unread x e

    pub audit_answered : AuditAnswered s t r
    audit_answered = sheet_cases (sheet_check s) refl
