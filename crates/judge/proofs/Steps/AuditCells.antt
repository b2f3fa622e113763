-- What the code of an audit shows of cells: their marks, and all cells one after the other.
use Rattle.std.proofs.Common.{◌≡◌, ℕ, zero, suc, ◌+◌, ◌-◌, ◌*◌, ◌<◌, ◌≤◌, Bool, true, false, not, ◌&&◌, ltb, ◌↔◌, List, length, get_or, sym, refl, ap, ◌∙◌, subst, ap₂, arith, ltb-false, le-ltb, lt-ltb, eq-eqb, ne_eqb}
use borrow.Author.Tests.{not-false}
use Rattle.sheet.specs.Bytes.{pick, lowest}
use Rattle.sheet.specs.Contents.{plan_body, actions_body, rule_body}
use Rattle.sheet.specs.Plan.{state_count}
use Rattle.sheet.specs.Rule.{node_count, below}
use Rattle.sheet.proofs.Acceptance.Parts.{rule_kept}
use Rattle.sheet.proofs.Checks.Checks.{and_parts, all, none_found}
use Rattle.sheet.proofs.Checks.Bools.{together}
use Rattle.sheet.proofs.Checks.Seeking.{Seeking, seek_here, seek_end}
use Rattle.rows.specs.Rows.{Row}
use Rattle.rows.specs.Tables.{byte_at, filled, known}
use Rattle.rows.specs.FollowsFrom.{follows_from}
use Rattle.rows.proofs.Follows.SolvedTables.{small_filled}
use Rattle.judge.specs.declared.index.Index.{Index}
use Rattle.judge.specs.Cells.{Cell, cell, marks, written_rows, position_of, cell_bytes, InTable}
use Rattle.judge.specs.Auditing.{every_below, every_byte, mark_allowed, byte_marked, byte_follows}
use Rattle.judge.specs.AuditCorrect.{FilledCell}
use Rattle.judge.specs.Internal.Deciding.{DecideRequires}
use Rattle.judge.specs.Internal.Index.{NodeAt}
use Rattle.judge.specs.Internal.Auditing.{row_follows, mark_told, ShownToFollow, shown_after, cell_passes, state_passes, table_passes, StateRequires, CellRequires, CellsRequires}
use Rattle.judge.proofs.Cells.CellLayout.{position_inside}
use Rattle.judge.proofs.Cells.CellRows.{modal_row}
use Rattle.judge.proofs.Audit.FilledCells.{every_filled, mark_exactly}
use Rattle.judge.proofs.Steps.DecideSteps.{position_at, kind_at, size_small, prepared_node}
use Rattle.judge.proofs.Steps.DecideCalls.{placed}

-- ---- the mark

pub told_zero : (index : Index) (m n : ℕ) → m ≡ 0 → true ≡ mark_told index m n
told_zero index zero n e = refl
told_zero index (suc k) n e = absurd (omega arith)

module _ (index : Index) where
  told_of : (m n : ℕ) → (m ≡ 0 → ⊥) → {k x : ℕ} → k ≡ m - 1 → x ≡ get_or index.binders k 0
      → mark_told index m n ≡ (ltb x n && ltb n (get_or index.ends k 0))
  told_of zero n h e q = absurd (h refl)
  told_of (suc j) n h {k} e q =
      let same : j ≡ k = omega arith in
      ap (λ (i : ℕ). ltb (get_or index.binders i 0) n && ltb n (get_or index.ends i 0)) same ∙
      ap (λ (i : ℕ). ltb i n && ltb n (get_or index.ends k 0)) (sym q)

  pub told_above : (m n : ℕ) → (m ≡ 0 → ⊥) → {k N x y : ℕ} → k ≡ m - 1 → N ≡ n → x ≡ get_or index.binders k 0
      → y ≡ get_or index.ends k 0 → x < N → ltb N y ≡ mark_told index m n
  told_above m n h {k} {N} {x} {y} e g q r l =
      ap₂ ltb g r ∙ sym (told_of m n h e q ∙ rw (lt-ltb x n (omega arith)))

  pub told_not : (m n : ℕ) → (m ≡ 0 → ⊥) → {k N x : ℕ} → k ≡ m - 1 → N ≡ n → x ≡ get_or index.binders k 0
      → N ≤ x → false ≡ mark_told index m n
  told_not m n h {k} {N} {x} e g q l = sym (told_of m n h e q ∙ rw (le-ltb x n (omega arith)))

-- ---- one cell

module _ {s : List ℕ} {index : Index} {t : List ℕ} {m n st b : ℕ} (q : CellRequires s index t (cell m n st) b) where
  abbrev rule : List ℕ
  rule = rule_body s

  pub mark_few : m < 7
  mark_few = omega (arith, q.mark_below, (rule_kept s q.at_state.accepted).few_binders)

  in_table : InTable s (cell m n st)
  in_table = record { mark_below = q.mark_below; node_below = q.node_below; state_below = q.at_state.state_below }

  pub byte_filled : (b ≡ 0 → ⊥) → filled b ≡ true
  byte_filled h =
      small_filled b (omega (arith, q.byte_is_holds, q.at_state.small (position_of rule (cell m n st)) (position_inside s (cell m n st) in_table)))
      (ne_eqb b 0 h)

  pub mark_is : {h : Bool} → h ≡ mark_told index m n → h ≡ mark_allowed rule m n
  mark_is e = e ∙ go m q.mark_below
    where
      go : (m : ℕ) → m < marks rule → mark_told index m n ≡ mark_allowed rule m n
      go zero l = refl
      go (suc k) l =
          ap₂ (λ (x y : ℕ). ltb x n && ltb n y) (q.at_state.rule_told.headed.binders_are.filled k (omega arith)) (q.at_state.rule_told.ends_are.filled k (omega arith))

  pub allowed_decidable : mark_allowed rule m n ≡ true → DecideRequires s index t (cell m n st)
  allowed_decidable h = record {
    accepted = q.at_state.accepted;
    prepared = q.at_state.prepared;
    room = q.at_state.room;
    node_below = q.node_below;
    state_below = q.at_state.state_below;
    state_settled = q.at_state.loop_free_holds;
    mark_right = (mark_exactly rule m n q.mark_below).0 h;
  }

  abbrev Passes : Bool → Type 0
  Passes r = r ≡ cell_passes s t (cell m n st)

  abbrev picking : ℕ → Bool
  picking x = pick (filled x) (mark_allowed rule m n && row_follows s t (cell m n st) x) true

  pub passes_empty : b ≡ 0 → Passes true
  passes_empty e = sym (ap picking (q.byte_is_holds ∙ e))

  by_byte : (b ≡ 0 → ⊥) → (mark_allowed rule m n && row_follows s t (cell m n st) b) ≡ cell_passes s t (cell m n st)
  by_byte h = sym (ap picking q.byte_is_holds ∙ rw (byte_filled h))

  pub passes_row : (b ≡ 0 → ⊥) → mark_allowed rule m n ≡ true → {r : Bool} → r ≡ row_follows s t (cell m n st) b → Passes r
  passes_row h a e = e ∙ (ap (λ (x : Bool). x && row_follows s t (cell m n st) b) (sym a) ∙ by_byte h)

  pub passes_shown : {shown : ℕ} → (b ≡ 0 → ⊥) → mark_allowed rule m n ≡ true → ShownToFollow s t (cell m n st) shown → b ≡ shown → Passes true
  passes_shown h a k e =
      passes_row h a (sym (ap (row_follows s t (cell m n st)) e ∙ k (λ z. h (e ∙ z))))

  pub passes_not : (b ≡ 0 → ⊥) → mark_allowed rule m n ≡ false → Passes false
  passes_not h a = ap (λ (x : Bool). x && row_follows s t (cell m n st) b) (sym a) ∙ by_byte h

-- ---- cells one after the other

-- a loop that looks for a number that fails a test
module _ (p : ℕ → Bool) {count n i : ℕ} (w : Seeking (λ j. not (p j)) count (lowest (λ j. not (p j)) n) i) (e : count ≡ n) where
  pub every_fails : i < count → p i ≡ false → false ≡ every_below n p
  unfolding every_below
  every_fails h q = sym (ne_eqb (lowest (λ j. not (p j)) n) n (λ g. omega (arith, seek_here w h (ap not q), g)))

  pub every_passes : count ≤ i → true ≡ every_below n p
  unfolding every_below
  every_passes h = sym (eq-eqb (lowest (λ j. not (p j)) n) n (omega (arith, seek_end w h, w.within)))

pub every_below_lem : (n : ℕ) (p : ℕ → Bool) → (every_below n p ≡ true) ↔ ((i : ℕ) → i < n → p i ≡ true)
unfolding every_below
every_below_lem n p = (
  λ h i l. not-false (p i) ((none_found (λ j. not (p j)) n).0 h i l),
  λ h. (none_found (λ j. not (p j)) n).1 (λ i l. ap not (h i l)),
)

-- where the code finds the cells of a node and a state
module _ {s : List ℕ} {index : Index} {t : List ℕ} {st n : ℕ} (q : StateRequires s index t st) (among : n < node_count (rule_body s)) where
  pub marks_told : index.marks ≡ marks (rule_body s)
  marks_told = q.prepared.marks_are

  pub node_told : NodeAt s index n
  node_told = prepared_node q.accepted q.prepared among

  module _ {start m : ℕ} (e : start ≡ (st * index.nodes + n) * index.marks + 0) (l : m < marks (rule_body s)) where
    pub cell_there : start + m ≡ position_at s (cell m n st)
    cell_there = placed q.prepared m n st (omega (arith, e))

    cell_within : start + m < cell_bytes s
    cell_within =
        omega (
          arith,
          cell_there,
          position_inside s (cell m n st) (record { mark_below = l; node_below = among; state_below = q.state_below }),
        )

    pub cell_room : start + m < length t
    cell_room = omega (arith, cell_within, q.room)

    pub cell_few : start + m < 57344
    cell_few = omega (arith, cell_within, size_small s q.accepted)

    pub cell_asked : {b : ℕ} → b ≡ get_or t (start + m) 0 → CellRequires s index t (cell m n st) b
    cell_asked g = record {
      at_state = q;
      node_below = among;
      mark_below = l;
      byte_is_holds = ap (byte_at t) (sym cell_there) ∙ sym g;
    }

-- the row of a "some" or an "every" is the same under every mark
modal_same : (s t : List ℕ) (n st b : ℕ) → 4 ≤ kind_at s n → kind_at s n < 6 → (m m' : ℕ) → row_follows s t (cell m n st) b ≡ row_follows s t (cell m' n st) b
unfolding row_follows
modal_same s t n st b l h m m' =
    ap (λ (w : Row Cell). follows_from (position_of (rule_body s)) t w (known b))
    (modal_row (plan_body s) (actions_body s) (rule_body s) m n st l h ∙ sym (modal_row (plan_body s) (actions_body s) (rule_body s) m' n st l h))

-- what is shown of a node's rows, under every mark
abbrev pub ShownOf : List ℕ → List ℕ → ℕ → ℕ → ℕ → Type 0
ShownOf s t n st k = (m : ℕ) → ShownToFollow s t (cell m n st) k

pub shown_on : {s : List ℕ} {index : Index} {t : List ℕ} {m n st b : ℕ} → CellRequires s index t (cell m n st) b → (b ≡ 0 → ⊥) → {k kind k' : ℕ} → ShownOf s t n st k
    → kind ≡ kind_at s n → true ≡ cell_passes s t (cell m n st) → k' ≡ shown_after kind b k → ShownOf s t n st k'
shown_on {s} {t = t} {m} {n} {st} {b} q some {k} {kind} {k'} was e passes g =
    subst (ShownOf s t n st) (sym g) (go (ltb kind 4) (ltb 5 kind) refl refl)
  where
    go : (x y : Bool) → ltb kind 4 ≡ x → ltb 5 kind ≡ y → ShownOf s t n st (pick x k (pick y k b))
    go true y p o = was
    go false true p o = was
    go false false p o =
        λ m' h. modal_same s t n st b (omega (arith, e, ltb-false kind 4 p)) (omega (arith, e, ltb-false 5 kind o)) m' m
        ∙ (and_parts (mark_allowed (rule_body s) m n) (row_follows s t (cell m n st) b) (by_byte q some ∙ sym passes)).1

-- a state without filled cells passes
pub others_pass : {s : List ℕ} {index : Index} {t starts : List ℕ} → CellsRequires s index t starts → (u : ℕ) → u < state_count (plan_body s) → get_or starts u 0 ≡ 0
    → state_passes s t u ≡ true
others_pass {s} {t = t} q u below e =
    (every_below_lem (node_count (rule_body s)) _).1
    (λ n h. (every_below_lem (marks (rule_body s)) _).1
    (λ m l. rw (q.others (cell m n u) below h l (λ g. g e))))

-- all cells together are what the definition asks
module _ (s t : List ℕ) where
  abbrev right : Cell → ℕ → Bool
  right c b = mark_allowed (rule_body s) c.mark c.node && row_follows s t c b

  -- of each filled cell
  passes_filled : (table_passes s t ≡ true) ↔ ((c : Cell) → FilledCell s t c → right c (byte_at t (position_of (rule_body s) c)) ≡ true)
  passes_filled = (
    λ h c f. subst (λ (b : Bool). pick b (right c (byte_at t (position_of (rule_body s) c))) true ≡ true) f.is_filled
        ((every_below_lem (marks (rule_body s)) _).0
        ((every_below_lem (node_count (rule_body s)) _).0
        ((every_below_lem (state_count (plan_body s)) _).0 h c.state f.in_table.state_below) c.node f.in_table.node_below)
        c.mark f.in_table.mark_below),
    λ h. (every_below_lem (state_count (plan_body s)) _).1
        (λ u hu. (every_below_lem (node_count (rule_body s)) _).1
        (λ n hn. (every_below_lem (marks (rule_body s)) _).1
        (λ m hm. go (cell m n u) h (record { mark_below = hm; node_below = hn; state_below = hu }) (filled (byte_at t (position_of (rule_body s) (cell m n u)))) refl))),
  )
    where
      go : (c : Cell) → ((c : Cell) → FilledCell s t c → right c (byte_at t (position_of (rule_body s) c)) ≡ true) → InTable s c
          → (b : Bool) → filled (byte_at t (position_of (rule_body s) c)) ≡ b → cell_passes s t c ≡ true
      go c h i true e = rw e (h c (record { in_table = i; is_filled = e }))
      go c h i false e = rw e

  pub all_cells : table_passes s t ≡ (every_byte s (byte_marked s t) && every_byte s (byte_follows s t))
  unfolding row_follows
  all_cells =
      together (table_passes s t) (every_byte s (byte_marked s t) && every_byte s (byte_follows s t)) (
        λ h.
            let each = passes_filled.0 h in
            all (every_byte s (byte_marked s t)) (every_byte s (byte_follows s t))
            (marked.1 (λ c f. (parts c (each c f)).0)) (follow.1 (λ c f. (parts c (each c f)).1)),
        λ h.
            let both = and_parts (every_byte s (byte_marked s t)) (every_byte s (byte_follows s t)) h in
            passes_filled.1 (λ c f. all (allowed c) (follows c) (marked.0 both.0 c f) (follow.0 both.1 c f)),
      )
    where
      allowed : Cell → Bool
      allowed c = mark_allowed (rule_body s) c.mark c.node

      follows : Cell → Bool
      follows c = follows_from (position_of (rule_body s)) t (written_rows s c) (known (byte_at t (position_of (rule_body s) c)))

      parts : (c : Cell) → (allowed c && follows c) ≡ true → (allowed c ≡ true) × (follows c ≡ true)
      parts c = and_parts (allowed c) (follows c)

      marked : (every_byte s (byte_marked s t) ≡ true) ↔ ((c : Cell) → FilledCell s t c → allowed c ≡ true)
      marked = every_filled s t (λ c b. mark_allowed (rule_body s) c.mark c.node)

      follow : (every_byte s (byte_follows s t) ≡ true) ↔ ((c : Cell) → FilledCell s t c → follows c ≡ true)
      follow = every_filled s t (λ c b. follows_from (position_of (rule_body s)) t (written_rows s c) (known b))
