-- One cell by the kind of its node: the evaluator's answer from the answers that it was given.
use Rattle.std.proofs.Common.{◌≡◌, ℕ, ◌<◌, ◌≤◌, Bool, true, false, eqb, List, [], ◌∷◌, get_or, set, sym, refl, ap, ◌∙◌, subst}
use mathlib.Core.Bool.{beq}
use Rattle.sheet.specs.Bytes.{pick}
use Rattle.sheet.specs.Contents.{plan_body, actions_body, rule_body}
use Rattle.sheet.specs.Rule.{binder_node}
use Rattle.rows.specs.Rows.{disjunction, conjunction, Row}
use Rattle.rows.specs.Tables.{out, constant, byte_of}
use Rattle.rows.proofs.Solver.QueryByRow.{walk_none, walk_only, walk_both}
use Rattle.rows.proofs.Solver.Solver.{walk_decided}
use Rattle.rows.proofs.Solver.Walks.{out_path}
use Rattle.judge.specs.declared.index.Index.{Index}
use Rattle.judge.specs.Cells.{Cell, cell, one_entry, opened, outer}
use Rattle.judge.specs.Internal.Packed.{verdict_in, visits_in, Known, Added, OneVisitMore}
use Rattle.judge.specs.Querying.{result_at}
use Rattle.judge.specs.Internal.Deciding.{DecideRequires, Decided, Followed}
use Rattle.judge.proofs.Cells.CellRows.{or_if, or_decides, of_kind, pair_row, modal_row, outer_row, constant_row, fixpoint_row, unknown_row}
use Rattle.judge.proofs.Steps.DecideSteps.{row_at, position_at, kind_at, x_at, y_at, walk_along, known_cell, filled_cell}
use Rattle.judge.proofs.Steps.DecideCalls.{is_valid}

-- the byte of the cell c is found at `at`
pub record CellFound (s : List ℕ) (index : Index) (t : List ℕ) (c : Cell) (at : ℕ) : Type 0 where
  pub decidable : DecideRequires s index t c
  pub here : at ≡ position_at s c

-- what filling the byte with the verdict of w gives: the answer r and the table x
abbrev Fills : ℕ → ℕ → List ℕ → ℕ → List ℕ → Type 0
Fills at w u r x = OneVisitMore w r × (x ≡ set u at (byte_of (verdict_in w)))

module _ {s : List ℕ} {index : Index} {t : List ℕ} {m n st at : ℕ} (f : CellFound s index t (cell m n st) at) where
  abbrev Answer : ℕ → List ℕ → Type 0
  Answer r x = Decided s (cell m n st) t r x

  byte_is_holds : {b : ℕ} → get_or t at 0 ≡ b → get_or t (position_at s (cell m n st)) 0 ≡ b
  byte_is_holds e = ap (λ (i : ℕ). get_or t i 0) (sym f.here) ∙ e

  pub answer_known : {b w : ℕ} → get_or t at 0 ≡ b → (b ≡ 0 → ⊥) → Known b w → Answer w t
  answer_known {b} {w} e h k =
      known_cell s f.decidable.accepted (cell m n st) (is_valid f.decidable) t f.decidable.room b w (byte_is_holds e) h k

  module _ (e : get_or t at 0 ≡ 0) where
    -- the row, the walk along it, and the store
    by_walk : {row : Row Cell} → row_at s (cell m n st) ≡ row → {w r : ℕ} {u x : List ℕ}
        → out (verdict_in w) (visits_in w) u ≡ walk_along s row t → Fills at w u r x → Answer r x
    by_walk {row} q {w} {r} {u} g k =
        subst (λ (x : List ℕ). Answer r x) (ap (λ (i : ℕ). set u i (byte_of (verdict_in w))) (sym f.here) ∙ sym k.1)
        (filled_cell s f.decidable.accepted (cell m n st) (is_valid f.decidable) t f.decidable.room (byte_is_holds e)
        row q w r u g k.0)

    pub answer_false : kind_at s n ≡ 0 → {r : ℕ} {x : List ℕ} → Fills at 0 t r x → Answer r x
    answer_false k =
        by_walk (of_kind (plan_body s) (actions_body s) (rule_body s) m n st 0 k) (sym (walk_none (λ c y. result_at s c y) disjunction t))

    pub answer_true : kind_at s n ≡ 1 → {r : ℕ} {x : List ℕ} → Fills at 1 t r x → Answer r x
    answer_true k =
        by_walk (of_kind (plan_body s) (actions_body s) (rule_body s) m n st 1 k) (sym (walk_none (λ c y. result_at s c y) conjunction t))

    pub answer_unknown : 9 ≤ kind_at s n → {r : ℕ} {x : List ℕ} → Fills at 0 t r x → Answer r x
    answer_unknown k =
        by_walk (unknown_row (plan_body s) (actions_body s) (rule_body s) m n st k) (sym (walk_none (λ c y. result_at s c y) disjunction t))

    pub answer_modal : 4 ≤ kind_at s n → kind_at s n < 6 → {w r : ℕ} {u x : List ℕ} → Followed s n st t w u → Fills at w u r x → Answer r x
    answer_modal k l g = by_walk (modal_row (plan_body s) (actions_body s) (rule_body s) m n st k l) g.result

    single : (child : Cell) → row_at s (cell m n st) ≡ one_entry child
        → {w r : ℕ} {u x : List ℕ} → Decided s child t w u → Fills at w u r x → Answer r x
    single child q g = by_walk q (sym (walk_only (λ c y. result_at s c y) disjunction child t _ _ _ (sym g.result)))

    pub answer_outer : {X b : ℕ} → X ≡ x_at s n → b ≡ binder_node (rule_body s) (x_at s n) → kind_at s n ≡ 6 → outer X m ≡ true
        → {w r : ℕ} {u x : List ℕ} → Decided s (cell 0 b st) t w u → Fills at w u r x → Answer r x
    answer_outer i j k o {w} {u = u} g =
        single (cell 0 (binder_node (rule_body s) (x_at s n)) st)
        (outer_row (plan_body s) (actions_body s) (rule_body s) m n st k (ap (λ (y : ℕ). outer y m) (sym i) ∙ o))
        (subst (λ (y : ℕ). Decided s (cell 0 y st) t w u) j g)

    pub answer_constant : {X w : ℕ} → X ≡ x_at s n → kind_at s n ≡ 6 → outer X m ≡ false
        → w ≡ pick (eqb (kind_at s (binder_node (rule_body s) (x_at s n))) 8) 1 0 → {r : ℕ} {x : List ℕ} → Fills at w t r x → Answer r x
    answer_constant i k o j =
        by_walk (constant_row (plan_body s) (actions_body s) (rule_body s) m n st k (ap (λ (y : ℕ). outer y m) (sym i) ∙ o))
        (ap (λ (y : ℕ). out (verdict_in y) (visits_in y) t) j ∙ go (eqb (kind_at s (binder_node (rule_body s) (x_at s n))) 8))
      where
        go : (b : Bool) → out (verdict_in (pick b 1 0)) (visits_in (pick b 1 0)) t ≡ walk_along s (constant {C = Cell} b) t
        go true = sym (walk_none (λ c y. result_at s c y) conjunction t)
        go false = sym (walk_none (λ c y. result_at s c y) disjunction t)

    pub answer_body : {o y : ℕ} → o ≡ opened (x_at s n) m → y ≡ y_at s n → 7 ≤ kind_at s n → kind_at s n < 9
        → {w r : ℕ} {u x : List ℕ} → Decided s (cell o y st) t w u → Fills at w u r x → Answer r x
    answer_body {o} i j k l {w} {u = u} g =
        single (cell (opened (x_at s n) m) (y_at s n) st) (fixpoint_row (plan_body s) (actions_body s) (rule_body s) m n st k l)
        (subst (λ (z : ℕ). Decided s (cell z (y_at s n) st) t w u) i (subst (λ (z : ℕ). Decided s (cell o z st) t w u) j g))

    -- an "or" or an "and", whose first cell has the verdict of w and leaves the table u
    module _ {X w : ℕ} {u : List ℕ} (i : X ≡ x_at s n) (k : 2 ≤ kind_at s n) (l : kind_at s n < 4) (g : Decided s (cell m X st) t w u) where
      first : result_at s (cell m (x_at s n) st) t ≡ out (verdict_in w) (visits_in w) u
      first = sym (g.result ∙ ap (λ (z : ℕ). result_at s (cell m z st) t) i)

      pub answer_first : beq (verdict_in w) (eqb (kind_at s n) 2) ≡ true → {r : ℕ} {x : List ℕ} → Fills at w u r x → Answer r x
      answer_first q =
          by_walk (pair_row (plan_body s) (actions_body s) (rule_body s) m n st k l)
          (sym (walk_decided (λ c y. result_at s c y) (or_if (eqb (kind_at s n) 2)) (cell m (x_at s n) st) (cell m (y_at s n) st ∷ []) t _ _ _
          first (or_decides (eqb (kind_at s n) 2) (verdict_in w) ∙ q)))

      pub answer_second : beq (verdict_in w) (eqb (kind_at s n) 2) ≡ false → {Y : ℕ} → Y ≡ y_at s n
          → {w' w'' r : ℕ} {u' x : List ℕ} → Decided s (cell m Y st) u w' u' → Added w w' w'' → Fills at w'' u' r x → Answer r x
      answer_second q j g' b =
          by_walk (pair_row (plan_body s) (actions_body s) (rule_body s) m n st k l)
          (out_path b.verdict_is b.visits_are refl ∙
          sym (walk_both (λ c y. result_at s c y) (or_if (eqb (kind_at s n) 2)) (cell m (x_at s n) st) (cell m (y_at s n) st) t _ _ _ _ _ _
          first (or_decides (eqb (kind_at s n) 2) (verdict_in w) ∙ q) (sym (g'.result ∙ ap (λ (z : ℕ). result_at s (cell m z st) u) j))))
