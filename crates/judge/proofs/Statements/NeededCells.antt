-- What is needed for a cell, and for the queries of a list of states, by the place of its byte.
use Rattle.std.proofs.Common.{◌≡◌, ℕ, Bool, true, ◌⊎◌, ◌↔◌, List, [], ◌∷◌, map, sym, refl, subst, inl, inr, true≢false}
use mathlib.Core.List.Memᴰ
use mathlib.Core.List.{Memᴰ}
use Rattle.sheet.specs.Contents.{rule_body}
use Rattle.sheet.specs.Reading.{sheet_check}
use Rattle.std.specs.Prelude.{Ok}
use Rattle.sheet.proofs.Acceptance.Parts.{bodies_kept}
use Rattle.rows.specs.Rows.{Row, Needed, itself, entry, value, need}
use Rattle.rows.specs.Tables.{among}
use Rattle.rows.proofs.Systems.Systems.{Each, needed_for}
use Rattle.rows.proofs.Systems.Members.{each_at, all_each}
use Rattle.rows.proofs.Systems.NeededCells.{looked_entry, needed_mem, mem_needed}
use Rattle.rows.proofs.Tables.Among.{or_cases, or_left, or_right, among_find, mem_among}
use Rattle.judge.specs.Cells.{Cell, cell, enough, position_of, written_rows, InTable}
use Rattle.judge.specs.Demand3.{NeededFor}
use Rattle.judge.proofs.Cells.CellLayout.{position_apart, valid_in}
use Rattle.judge.proofs.Cells.Ranks.{rank_enough}
use Rattle.judge.proofs.Statements.OneSolution.{Settled, Ranked, written_falls}

module _ (s : List ℕ) (accepted : sheet_check s ≡ Ok tt) where
  abbrev place : Cell → ℕ
  place = position_of (rule_body s)

  module _ (R : Cell → Row Cell) (falls : Ranked s accepted R) where
    needed_settled : {v : Cell → Bool} {c d : Cell} → Settled s accepted c → Needed R v c d → Settled s accepted d
    needed_settled h itself = h
    needed_settled {v} {c} h (entry {e = e} l n) =
        needed_settled (each_at _ (R c).entries (falls.falls c h) e (looked_entry (R c).connective v l)).0 n

    module _ (c : Cell) (h : Settled s accepted c) where
      abbrev Member : Cell → Type 0
      Member d = Settled s accepted d × Memᴰ d (need R enough c)

      members : Each Member (need R enough c)
      members = all_each Member (need R enough c) (λ d m. (needed_settled h (mem_needed R falls enough (rank_enough (bodies_kept s accepted)) c d h m), m))

      -- a cell whose byte is that of a needed cell is needed
      pub needed_at : (d : Cell) → InTable s d → among place (need R enough c) (place d) ≡ true → Needed R (value R enough) c d
      needed_at d t q =
          let found = among_find place (need R enough c) members (place d) q in
          let same : found.0 ≡ d = position_apart s found.0 d (valid_in s found.0 found.1.0) t found.2 in
          subst (Needed R (value R enough) c) same (mem_needed R falls enough (rank_enough (bodies_kept s accepted)) c found.0 h found.1.1)

      pub at_needed : (d : Cell) → Needed R (value R enough) c d → among place (need R enough c) (place d) ≡ true
      at_needed d n = mem_among place (needed_mem R falls enough (rank_enough (bodies_kept s accepted)) h n)

  -- needed for the queries of some states
  abbrev byte_needed : List ℕ → Cell → Type 0
  byte_needed l c = needed_for place (written_rows s) enough (map (cell 0 0) l) (place c) ≡ true

  pub needed_for_lem : (l : List ℕ) → Each (λ state. Settled s accepted (cell 0 0 state)) l → (c : Cell) → InTable s c → byte_needed l c ↔ NeededFor s (value (written_rows s) enough) l c
  unfolding needed_for
  needed_for_lem [] e c t = (λ q. absurd (true≢false (sym q)), λ n. absurd (Memᴰ.not-nil n.1))
  needed_for_lem (x ∷ l) e c t = one_more (needed_for_lem l e.1 c t)
    where
      first : Bool
      first = among place (need (written_rows s) enough (cell 0 0 x)) (place c)

      others : Bool
      others = needed_for place (written_rows s) enough (map (cell 0 0) l) (place c)

      here : (state : ℕ) → (state ≡ x) ⊎ Memᴰ state l → (NeededFor s (value (written_rows s) enough) l c → byte_needed l c)
          → Needed (written_rows s) (value (written_rows s) enough) (cell 0 0 state) c → byte_needed (x ∷ l) c
      here state (inl q) rest n =
          or_left first others
          (at_needed (written_rows s) (written_falls s accepted) (cell 0 0 x) e.0 c (subst (λ (y : ℕ). Needed (written_rows s) (value (written_rows s) enough) (cell 0 0 y) c) q n))
      here state (inr m) rest n = or_right first others (rest (state, m, n))

      one_more : byte_needed l c ↔ NeededFor s (value (written_rows s) enough) l c → byte_needed (x ∷ l) c ↔ NeededFor s (value (written_rows s) enough) (x ∷ l) c
      one_more rest = (
        λ q. or_cases first others q (λ a. (x, Memᴰ.head refl, needed_at (written_rows s) (written_falls s accepted) (cell 0 0 x) e.0 c t a))
            (λ b. let n = rest.0 b in (n.0, Memᴰ.tail n.1, n.2)),
        λ n. here n.0 (Memᴰ.cases_cons n.1) rest.1 n.2,
      )
