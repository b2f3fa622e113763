-- What the code of an audit shows of one cell: whether its byte follows from filled cells of its row, kind by kind.
use Rattle.std.proofs.Common.{◌≡◌, ℕ, ◌+◌, ◌*◌, ◌<◌, ◌≤◌, Bool, true, false, not, eqb, List, [], ◌∷◌, length, get_or, sym, refl, ap, ◌∙◌, ap₂, arith, eq-eqb, ne_eqb, eqb-true}
use mathlib.Core.Bool.{beq}
use Rattle.sheet.specs.Contents.{plan_body, actions_body, rule_body}
use Rattle.sheet.specs.Plan.{target}
use Rattle.sheet.specs.Rule.{binder_node}
use Rattle.rows.specs.Rows.{Row, decides}
use Rattle.rows.specs.Tables.{byte_at, filled, known, constant}
use Rattle.rows.specs.FollowsFrom.{filled_with, enough_filled_with, follows_from}
use Rattle.rows.proofs.Tables.Among.{or_cases}
use Rattle.rows.proofs.Solver.Walks.{beq_true}
use Rattle.rows.proofs.Follows.Sound.{filled_known}
use Rattle.rows.proofs.Follows.Enough.{enough_none, enough_here, enough_on, enough_only, constant_follows}
use Rattle.graph.specs.Explored.{first_from}
use Rattle.judge.specs.declared.index.Index.{Index}
use Rattle.judge.specs.Cells.{Cell, cell, one_entry, opened, outer, written_rows, position_of}
use Rattle.judge.specs.Internal.Deciding.{DecideRequires, FollowRequires}
use Rattle.judge.specs.Internal.Auditing.{successors_hold, row_follows}
use Rattle.judge.proofs.Cells.CellRows.{or_decides, of_kind, pair_row, modal_row, outer_row, constant_row, fixpoint_row, unknown_row}
use Rattle.judge.proofs.Steps.DecideSteps.{position_at, kind_at, x_at, y_at}
use Rattle.judge.proofs.Steps.DecideCalls.{placed, cell_inside, binder_found}
use Rattle.judge.proofs.Steps.Turns.{cells_of, cells_from, meets_at, TurnAt, turns_start, cells_start, turns_next, child, child_below, cells_met, cells_unmet, cells_end}

-- a cell is filled with the value of byte b
abbrev has : List ℕ → List ℕ → ℕ → Cell → Bool
has s t b d = filled_with (position_of (rule_body s)) t (known b) d

abbrev enough : List ℕ → List ℕ → Bool → ℕ → List Cell → Bool
enough s t one b l = enough_filled_with (position_of (rule_body s)) t one (known b) l

-- what the code reads at a cell's byte
pub has_byte : (s t : List ℕ) (b : ℕ) (d : Cell) {at : ℕ} {h : Bool} → filled b ≡ true → at ≡ position_at s d → h ≡ eqb (get_or t at 0) b → h ≡ has s t b d
has_byte s t b d f q e = e ∙ ap₂ (λ (x y : ℕ). eqb (byte_at t x) y) q (filled_known b f)

-- ---- the loop over the transitions of a state

-- it has come to i, and what is left is whether enough cells from i on are filled with the value
pub record SuccessorsLeft (s t : List ℕ) (n st : ℕ) (one : Bool) (b first end i : ℕ) : Type 0 where
  pub turn : TurnAt s st first end i
  pub left : successors_hold s t n st one b ≡ enough s t one b (cells_from s n st i)

module _ {s : List ℕ} {index : Index} {t : List ℕ} {n st : ℕ} (f : FollowRequires s index t n st) {one : Bool} {b : ℕ} where
  pub successors_start : {first end : ℕ} → first ≡ first_from (plan_body s) st → end ≡ first_from (plan_body s) (st + 1)
      → SuccessorsLeft s t n st one b first end first
  unfolding successors_hold
  successors_start e g = record { turn = turns_start f e g; left = ap (enough s t one b) (cells_start f e) }

  module _ {first end i : ℕ} (w : SuccessorsLeft s t n st one b first end i) where
    module _ (more : i < end) where
      -- where the code reads the byte of the cell that the transition leads to
      module _ {Y T : ℕ} (e : Y ≡ y_at s n) (g : T ≡ target (plan_body s) i) where
        child_asked : DecideRequires s index t (cell 0 Y T)
        child_asked = (child_below f w.turn more f.room e g).1

        module _ {at : ℕ} (q : at ≡ (T * index.nodes + Y) * index.marks + 0) where
          pub child_inside : at < length t
          child_inside = cell_inside child_asked (placed f.prepared 0 Y T q)

          pub child_has : filled b ≡ true → {h : Bool} → h ≡ eqb (get_or t at 0) b → h ≡ has s t b (child f w.turn more)
          child_has k r = has_byte s t b (child f w.turn more) k (placed f.prepared 0 Y T q ∙ ap₂ (λ (y z : ℕ). position_at s (cell 0 y z)) e g) r

      module _ (is_met : meets_at s n i ≡ true) {h : Bool} (q : h ≡ has s t b (child f w.turn more)) where
        begins : successors_hold s t n st one b ≡ enough s t one b (child f w.turn more ∷ cells_from s n st (i + 1))
        begins = w.left ∙ ap (enough s t one b) (cells_met f w.turn more is_met)

        pub successors_found : beq h one ≡ true → one ≡ successors_hold s t n st one b
        successors_found e =
            sym (begins ∙ enough_here (position_of (rule_body s)) t one (known b) (child f w.turn more) (cells_from s n st (i + 1)) (sym q ∙ beq_true h one e))

        pub successors_on : beq h one ≡ false → SuccessorsLeft s t n st one b first end (i + 1)
        successors_on e = record {
          turn = turns_next f w.turn more;
          left = begins ∙ enough_on (position_of (rule_body s)) t one (known b) (child f w.turn more) (cells_from s n st (i + 1))
              (ap (λ (x : Bool). beq x one) (sym q) ∙ e);
        }

      pub successors_past : meets_at s n i ≡ false → SuccessorsLeft s t n st one b first end (i + 1)
      successors_past q = record { turn = turns_next f w.turn more; left = w.left ∙ ap (enough s t one b) (cells_unmet f w.turn more q) }

    pub successors_end : end ≤ i → not one ≡ successors_hold s t n st one b
    successors_end past = sym (w.left ∙ (ap (enough s t one b) (cells_end f w.turn past) ∙ enough_none (position_of (rule_body s)) t one (known b)))

-- ---- a row, by the kind of its node

one_or_two : (b : ℕ) → filled b ≡ true → eqb b 1 ≡ not (eqb b 2)
one_or_two b f = or_cases (eqb b 1) (eqb b 2) f
    (λ x. let q : b ≡ 1 = eqb-true b 1 x in ap (λ (c : ℕ). eqb c 1) q ∙ sym (ap (λ (c : ℕ). not (eqb c 2)) q))
    (λ x. let q : b ≡ 2 = eqb-true b 2 x in ap (λ (c : ℕ). eqb c 1) q ∙ sym (ap (λ (c : ℕ). not (eqb c 2)) q))

module _ {s : List ℕ} {index : Index} {t : List ℕ} {m n st : ℕ} (d : DecideRequires s index t (cell m n st)) (b : ℕ) (f : filled b ≡ true) where
  abbrev Answer : Bool → Type 0
  Answer r = r ≡ row_follows s t (cell m n st) b

  by_row : {row : Row Cell} → written_rows s (cell m n st) ≡ row → follows_from (position_of (rule_body s)) t row (known b) ≡ row_follows s t (cell m n st) b
  unfolding row_follows
  by_row e = ap (λ (w : Row Cell). follows_from (position_of (rule_body s)) t w (known b)) (sym e)

  constantly : (w : Bool) → written_rows s (cell m n st) ≡ constant w → {r : Bool} → r ≡ beq w (eqb b 2) → Answer r
  constantly w e q = q ∙ (sym (constant_follows (position_of (rule_body s)) t w (known b)) ∙ by_row e)

  never : (v : Bool) → not v ≡ beq false v
  never true = refl
  never false = refl

  always : (v : Bool) → v ≡ beq true v
  always true = refl
  always false = refl

  pub row_false : kind_at s n ≡ 0 → Answer (eqb b 1)
  row_false k = constantly false (of_kind (plan_body s) (actions_body s) (rule_body s) m n st 0 k) (one_or_two b f ∙ never (eqb b 2))

  pub row_true : kind_at s n ≡ 1 → Answer (eqb b 2)
  row_true k = constantly true (of_kind (plan_body s) (actions_body s) (rule_body s) m n st 1 k) (always (eqb b 2))

  pub row_unknown : 9 ≤ kind_at s n → Answer (eqb b 1)
  row_unknown k = constantly false (unknown_row (plan_body s) (actions_body s) (rule_body s) m n st k) (one_or_two b f ∙ never (eqb b 2))

  -- the only entry of a row
  only : (c : Cell) → written_rows s (cell m n st) ≡ one_entry c → {at : ℕ} {h : Bool} → at ≡ position_at s c → h ≡ eqb (get_or t at 0) b → Answer h
  only c e q r =
      has_byte s t b c f q r ∙
      (sym (enough_only (position_of (rule_body s)) t (decides (one_entry c).connective (known b)) (known b) c) ∙ by_row e)

  pub row_outer : {X B at : ℕ} → kind_at s n ≡ 6 → X ≡ x_at s n → B ≡ get_or index.binders X 0 → outer X m ≡ true
      → at ≡ (st * index.nodes + B) * index.marks + 0 → {h : Bool} → h ≡ eqb (get_or t at 0) b → Answer h
  row_outer {X} {B} k i j o q =
      only (cell 0 (binder_node (rule_body s) (x_at s n)) st) (outer_row (plan_body s) (actions_body s) (rule_body s) m n st k (ap (λ (y : ℕ). outer y m) (sym i) ∙ o))
      (placed d.prepared 0 B st q ∙ ap (λ (y : ℕ). position_at s (cell 0 y st)) (binder_found d k i j))

  pub row_constant : {X B K : ℕ} → kind_at s n ≡ 6 → X ≡ x_at s n → B ≡ get_or index.binders X 0 → outer X m ≡ false → K ≡ kind_at s B
      → Answer (beq (eqb K 8) (eqb b 2))
  row_constant {X} {B} {K} k i j o e =
      constantly (eqb (kind_at s (binder_node (rule_body s) (x_at s n))) 8)
      (constant_row (plan_body s) (actions_body s) (rule_body s) m n st k (ap (λ (y : ℕ). outer y m) (sym i) ∙ o))
      (ap (λ (x : ℕ). beq (eqb x 8) (eqb b 2)) (e ∙ ap (kind_at s) (binder_found d k i j)))

  pub row_body : {X o y at : ℕ} → 7 ≤ kind_at s n → kind_at s n < 9 → X ≡ x_at s n → o ≡ opened X m → y ≡ y_at s n
      → at ≡ (st * index.nodes + y) * index.marks + o → {h : Bool} → h ≡ eqb (get_or t at 0) b → Answer h
  row_body {X} {o} {y} l g i e j q =
      only (cell (opened (x_at s n) m) (y_at s n) st) (fixpoint_row (plan_body s) (actions_body s) (rule_body s) m n st l g)
      (placed d.prepared o y st q ∙ ap₂ (λ (k z : ℕ). position_at s (cell k z st)) (e ∙ ap (λ (x : ℕ). opened x m) i) j)

  -- a "some" or an "every"
  pub row_modal : 4 ≤ kind_at s n → kind_at s n < 6 → {one r : Bool} → one ≡ beq (eqb b 2) (eqb (kind_at s n) 4)
      → r ≡ successors_hold s t n st one b → Answer r
  unfolding successors_hold
  row_modal l h {one} q e =
      e ∙ (ap (λ (x : Bool). enough s t x b (cells_of s n st)) (q ∙ sym (or_decides (eqb (kind_at s n) 4) (known b))) ∙
      by_row (modal_row (plan_body s) (actions_body s) (rule_body s) m n st l h))

  pub some_asks_one : kind_at s n ≡ 4 → eqb b 2 ≡ beq (eqb b 2) (eqb (kind_at s n) 4)
  some_asks_one k = go (eqb b 2) ∙ ap (beq (eqb b 2)) (sym (eq-eqb (kind_at s n) 4 k))
    where
      go : (v : Bool) → v ≡ beq v true
      go true = refl
      go false = refl

  pub every_asks_one : kind_at s n ≡ 5 → eqb b 1 ≡ beq (eqb b 2) (eqb (kind_at s n) 4)
  every_asks_one k = one_or_two b f ∙ (go (eqb b 2) ∙ ap (beq (eqb b 2)) (sym (ne_eqb (kind_at s n) 4 (λ q. omega arith))))
    where
      go : (v : Bool) → not v ≡ beq v false
      go true = refl
      go false = refl

  -- an "or" or an "and"
  module _ (l : 2 ≤ kind_at s n) (g : kind_at s n < 4) {K : ℕ} (k : K ≡ kind_at s n) where
    abbrev asks_one : Bool
    asks_one = beq (eqb b 2) (eqb K 2)

    whole : enough s t asks_one b (cell m (x_at s n) st ∷ cell m (y_at s n) st ∷ []) ≡ row_follows s t (cell m n st) b
    whole =
        ap (λ (x : Bool). enough s t x b (cell m (x_at s n) st ∷ cell m (y_at s n) st ∷ []))
        (ap (λ (x : ℕ). beq (eqb b 2) (eqb x 2)) k ∙ sym (or_decides (eqb (kind_at s n) 2) (known b))) ∙
        by_row (pair_row (plan_body s) (actions_body s) (rule_body s) m n st l g)

    module _ {X at : ℕ} (i : X ≡ x_at s n) (q : at ≡ (st * index.nodes + X) * index.marks + m) {h : Bool} (r : h ≡ eqb (get_or t at 0) b) where
      first : h ≡ has s t b (cell m (x_at s n) st)
      first = has_byte s t b (cell m (x_at s n) st) f (placed d.prepared m X st q ∙ ap (λ (y : ℕ). position_at s (cell m y st)) i) r

      pub row_first : beq h asks_one ≡ true → Answer asks_one
      row_first e =
          sym (enough_here (position_of (rule_body s)) t asks_one (known b) (cell m (x_at s n) st) (cell m (y_at s n) st ∷ [])
          (sym first ∙ beq_true h asks_one e)) ∙ whole

      pub row_second : beq h asks_one ≡ false → {Y au : ℕ} → Y ≡ y_at s n → au ≡ (st * index.nodes + Y) * index.marks + m
          → {h' : Bool} → h' ≡ eqb (get_or t au 0) b → Answer h'
      row_second e {Y} j p r' =
          has_byte s t b (cell m (y_at s n) st) f (placed d.prepared m Y st p ∙ ap (λ (y : ℕ). position_at s (cell m y st)) j) r' ∙
          (sym (enough_only (position_of (rule_body s)) t asks_one (known b) (cell m (y_at s n) st)) ∙
          (sym (enough_on (position_of (rule_body s)) t asks_one (known b) (cell m (x_at s n) st) (cell m (y_at s n) st ∷ [])
          (ap (λ (x : Bool). beq x asks_one) (sym first) ∙ e)) ∙ whole))
