-- A just cleared table gets a yes, and a query keeps it: so the table of every list of queries gets one.
use Rattle.std.proofs.Common.{◌≡◌, ℕ, ◌≤◌, Bool, true, false, not, ◌⊎◌, List, [], ◌∷◌, length, sym, refl, ap, ◌∙◌, subst, inl, inr, true≢false, arith, eq-eqb, eqb-true}
use mathlib.Core.List.{Memᴰ}
use Rattle.sheet.specs.Contents.{plan_body, rule_body}
use Rattle.sheet.specs.Reading.{sheet_check}
use Rattle.std.specs.Prelude.{Ok}
use Rattle.sheet.proofs.Acceptance.Parts.{bodies_kept}
use Rattle.sheet.proofs.Acceptance.Sheet.{accepted_iff}
use Rattle.rows.specs.Rows.{Row, deciding, joined, Needed, itself, entry, value}
use Rattle.rows.specs.Tables.{empty, filled, known, byte_of}
use Rattle.rows.specs.FollowsFrom.{FilledWith, FollowsFrom, by_one, by_all}
use Rattle.rows.proofs.Systems.Changed.{known_byte, empty_byte, joined_constant, changed_empty, changed_byte}
use Rattle.rows.proofs.Systems.NeededCells.{looked_entry, needed_on}
use Rattle.rows.proofs.Follows.Complete.{follows_complete}
use Rattle.rows.proofs.Follows.Sound.{filled_known}
use Rattle.rows.proofs.Follows.SolvedTables.{small_filled}
use Rattle.graph.proofs.Looptest.Settled.{onward}
use Rattle.judge.specs.Cells.{Cell, cell, written_rows, enough, position_of, table_bytes, cells_in, InTable}
use Rattle.judge.specs.Clearing.{table_cleared}
use Rattle.judge.specs.Querying.{query_check, count_right, table_queried}
use Rattle.judge.specs.OneSolution.{changed_rows, LoopFreeCell, ComesTo, OneSolution}
use Rattle.judge.specs.QueryCorrect.{cell_byte}
use Rattle.judge.specs.Lists.{table_after}
use Rattle.judge.specs.AuditCorrect.{FilledCell, AuditNotRefused, AuditRight}
use Rattle.judge.proofs.Cells.CellLayout.{table_layout, solvable, position_inside}
use Rattle.judge.proofs.Cells.CountLayout.{cells_byte}
use Rattle.judge.proofs.Lists.JustCleared.{cleared_length, cleared_below}
use Rattle.judge.proofs.Lists.SheetLists.{takes, takes_valid, Fine, zero_fine, fine_after, query_passes, count_passes, refused_table}
use Rattle.judge.proofs.Statements.OneSolution.{changed_falls, solves_from}
use Rattle.judge.proofs.Statements.QueryCorrect.{cell_cases, same_here, filled_here}
use Rattle.judge.proofs.Audit.AuditSolved.{all_solved, filled_free}

-- a needed cell is one that the rows lead to
needed_comes : (R : Cell → Row Cell) (v : Cell → Bool) {c d : Cell} → Needed R v c d → ComesTo R c d
needed_comes R v itself = inl refl
needed_comes R v (entry {c = c} h n) = inr (onward (looked_entry (R c).connective v h) (needed_comes R v n))

-- what follows does so in each table that keeps the filled entries
follows_kept : (position : Cell → ℕ) (t u : List ℕ) (row : Row Cell) (v : Bool)
    → ((d : Cell) → Memᴰ d row.entries → (w : Bool) → FilledWith position t w d → FilledWith position u w d)
    → FollowsFrom position t row v → FollowsFrom position u row v
follows_kept position t u row v kept (by_one d m h e) = by_one d m (kept d m (deciding row.connective) h) e
follows_kept position t u row v kept (by_all h e) = by_all (λ d m. kept d m (not (deciding row.connective)) (h d m)) e

-- when yes is said
abbrev pub Yes : List ℕ → List ℕ → Type 0
Yes s t = AuditNotRefused s t × AuditRight s t

module _ (s : List ℕ) (accepted : sheet_check s ≡ Ok tt) where
  abbrev cell_place : Cell → ℕ
  cell_place = position_of (rule_body s)

  -- what it asks of a filled cell
  abbrev Stands : List ℕ → Cell → Type 0
  Stands t c = LoopFreeCell s c × FollowsFrom cell_place t (written_rows s c) (known (cell_byte s t c))

  all_stand : (t : List ℕ) → Fine s accepted t → ((c : Cell) → FilledCell s t c → Stands t c) → Yes s t
  all_stand t fine stands = (
    record {
      bytes = record { there = record { accepted = (accepted_iff s).0 accepted; long = fine.long }; small = fine.small };
      none = λ c g. (stands c g).0.no_loop;
    },
    record {
      count_right_holds = fine.counted;
      mark_right = λ c g. (stands c g).0.of_sheet.mark_right;
      follows_from_holds = λ c g. (stands c g).1;
    },
  )

  pub cleared_yes : (t : List ℕ) → table_bytes s ≤ length t → Yes s (table_cleared s t)
  cleared_yes t fits =
      let zero = cleared_below s t accepted fits in
      all_stand (table_cleared s t) (zero_fine s accepted (table_cleared s t) (omega (arith, cleared_length s t accepted fits)) zero)
      (λ c g. absurd (true≢false (sym g.is_filled ∙ ap filled (zero (cell_place c) (omega (arith, position_inside s c g.in_table))))))

  -- a query that is not refused
  module _ (t : List ℕ) (q : AuditNotRefused s t) (f : AuditRight s t) (state : ℕ) (taken : takes (plan_body s) state ≡ true) where
    table_fine : Fine s accepted t
    table_fine = record { long = q.bytes.there.long; small = q.bytes.small; counted = f.count_right_holds }

    check_passed : query_check s state t ≡ Ok tt
    check_passed = query_passes s accepted t table_fine state taken

    count_passed : count_right s t ≡ true
    count_passed = count_passes s accepted t table_fine

    abbrev R : Cell → Row Cell
    R = changed_rows s t

    abbrev v : Cell → Bool
    v = value R enough

    abbrev u : List ℕ
    u = table_queried s state t

    abbrev NeededHere : Cell → Type 0
    NeededHere = Needed R v (cell 0 0 state)

    needed_solved : OneSolution s R (ComesTo R (cell 0 0 state)) v
    needed_solved = solves_from s accepted R (changed_falls s accepted t) (cell 0 0 state) (takes_valid s accepted state taken)

    needed_free : (d : Cell) → NeededHere d → LoopFreeCell s d
    needed_free d n = needed_solved.of_sheet d (needed_comes R v n)

    free_in : (d : Cell) → LoopFreeCell s d → InTable s d
    free_in d g = table_layout.cells s d g.of_sheet

    kept_byte : (d : Cell) → InTable s d → (b : Bool) → cell_byte s t d ≡ byte_of b → cell_byte s u d ≡ byte_of b
    kept_byte d h b e = same_here s state t check_passed count_passed d h (λ z n. true≢false (sym (ap empty z) ∙ ap empty e ∙ empty_byte b)) ∙ e

    -- a needed cell is filled with its solution, now or before
    needed_filled : (d : Cell) → NeededHere d → cell_byte s u d ≡ byte_of (v d)
    needed_filled d n = go (empty (cell_byte s t d)) refl
      where
        inside : InTable s d
        inside = free_in d (needed_free d n)

        constant_value : (b : Bool) → cell_byte s t d ≡ byte_of b → v d ≡ b
        constant_value b e =
            needed_solved.solves.row d (needed_comes R v n)
            ∙ ap (λ (x : Row Cell). joined x.connective v x.entries)
            (changed_byte cell_place (written_rows s) (cells_in s t) d b (cells_byte s t (cell_place d) (position_inside s d inside) ∙ e))
            ∙ joined_constant b v

        go : (b : Bool) → empty (cell_byte s t d) ≡ b → cell_byte s u d ≡ byte_of (v d)
        go true e = filled_here s state t check_passed count_passed d inside (eqb-true (cell_byte s t d) 0 e) n
        go false e =
            let is = filled_known (cell_byte s t d) (small_filled (cell_byte s t d) (table_fine.small (cell_place d) (position_inside s d inside)) e) in
            kept_byte d inside (known (cell_byte s t d)) is ∙ ap byte_of (sym (constant_value (known (cell_byte s t d)) is))

    still_stands : (c : Cell) → FilledCell s u c → Stands u c
    still_stands c g = go (cell_cases s state t check_passed count_passed c g.in_table)
      where
        go : ((cell_byte s t c ≡ 0) × NeededHere c) ⊎ (cell_byte s u c ≡ cell_byte s t c) → Stands u c
        go (inl h) = (
          needed_free c h.1,
          subst (FollowsFrom cell_place u (written_rows s c)) (sym (ap known (needed_filled c h.1) ∙ known_byte (v c)))
              (subst (λ (x : Row Cell). FollowsFrom cell_place u x (v c))
              (changed_empty cell_place (written_rows s) (cells_in s t) c
              (ap empty (cells_byte s t (cell_place c) (position_inside s c g.in_table)) ∙ eq-eqb (cell_byte s t c) 0 h.0))
              (follows_complete cell_place u R v c (needed_solved.solves.row c (needed_comes R v h.1)) (λ d m. needed_filled d (needed_on R v h.1 m)))),
        )
        go (inr e) =
            let before : FilledCell s t c = record { in_table = g.in_table; is_filled = ap filled (sym e) ∙ g.is_filled } in
            let free = filled_free s t q f c before in (
              free,
              subst (FollowsFrom cell_place u (written_rows s c)) (ap known (sym e))
                  (follows_kept cell_place t u (written_rows s c) (known (cell_byte s t c))
                  (λ d m. kept_byte d (free_in d ((all_solved s t q f).entries_count c d free m))) (f.follows_from_holds c before)),
            )

    query_yes : Yes s u
    query_yes = all_stand u (fine_after s accepted (solvable (bodies_kept s accepted)) (takes_valid s accepted) t table_fine state taken) still_stands

  pub after_yes : (states t : List ℕ) → Yes s t → Yes s (table_after s t states)
  unfolding table_after
  after_yes [] t both = both
  after_yes (state ∷ states) t both = after_yes states (table_queried s state t) (go (takes (plan_body s) state) refl)
    where
      go : (b : Bool) → takes (plan_body s) state ≡ b → Yes s (table_queried s state t)
      go true e = query_yes t both.0 both.1 state e
      go false e = subst (Yes s) (sym (refused_table s accepted t state e)) both
