-- One pass over the tokens of a readable line makes what its tree makes.
use Prim.Native.Nat.{ℕ, suc, ◌+◌, ◌*◌, ◌<◌, ◌≤◌}
use mathlib.Core.Path.{◌≡◌, refl, ap, ◌∙◌}
use mathlib.Core.Bool.{true, false}
use mathlib.Core.List.{List, [], ◌∷◌, ◌++◌}
use native.Mathlib.Omega.{arith}
use native.Mathlib.Decide.{ℕ_discrete}
use borrow.Author.Tests.{eq-eqb, ne_eqb, le-leb, lt-leb}
use Rattle.action_line.specs.Tokens.{Token, and_word, or_word, close_parenthesis}
use Rattle.action_line.specs.Grammar.{Tree, false_tree, true_tree, action_tree, or_tree, and_tree, not_tree}
use Rattle.action_line.specs.Grammar.{Layer, factor, conjunction, disjunction, Derives}
use Rattle.action_line.specs.Grammar.{
  of_number,
  of_true,
  of_false,
  of_not,
  of_parentheses,
  of_factor,
  of_and,
  of_conjunction,
  of_or,
}
use Rattle.action_line.specs.Precedence.{or_kind, and_kind, not_kind, Builder, Waiting, ParserState}
use Rattle.action_line.specs.Precedence.{reduce, completed, ended, shift, leave, step, run, built_from}

module _ {Left Made : Type 0} (B : Builder Left Made) where
  -- what a tree makes, after what was made before: the left (or only) operand's, the right's, then their operator's
  unfoldable pub after : Tree → Made → Made
  after false_tree o = B.constant false o
  after true_tree o = B.constant true o
  after (action_tree n) o = B.action n o
  after (or_tree t u) o = B.combine or_kind (B.latest (after t o)) (after u (after t o))
  after (and_tree t u) o = B.combine and_kind (B.latest (after t o)) (after u (after t o))
  after (not_tree t) o = B.combine not_kind (B.latest o) (after t o)

  abbrev state : ℕ → List (Waiting Left) → Made → ParserState Left Made
  state d ws o = record { depth = d; stack = ws; made = o }

  abbrev waiting : ℕ → ℕ → Left → Waiting Left
  waiting kind d x = record { kind = kind; depth = d; left = x }

  -- the operator on top stands outside, or binds looser: 3 × depth + kind orders all of them
  abbrev TopBelow : ℕ → List (Waiting Left) → Type 0
  TopBelow k [] = Unit {0}
  TopBelow k (w ∷ ws) = 3 * w.depth + w.kind < k

  top_below : (k k' : ℕ) (ws : List (Waiting Left)) → k ≤ k' → TopBelow k ws → TopBelow k' ws
  top_below k k' [] h u = tt
  top_below k k' (w ∷ ws) h u = omega arith

  -- what stands outside or binds looser stays on the stack
  reduce_none : (kind d : ℕ) (ws : List (Waiting Left)) (o : Made) → TopBelow (3 * d + kind) ws → reduce B kind d ws o ≡ state d ws o
  unfolding reduce
  reduce_none kind d [] o u = refl
  reduce_none kind d (w ∷ ws) o u =
      elim (ℕ_discrete w.depth d) [
        | yes q ↦ rw (eq-eqb w.depth d q, lt-leb kind w.kind (omega arith))
        | no q ↦ rw (ne_eqb w.depth d q)
      ]

  -- what stands at this depth and binds as tightly gets its last operand
  reduce_one : (kind d kind' : ℕ) (x : Left) (ws : List (Waiting Left)) (o : Made) → kind ≤ kind'
      → reduce B kind d (waiting kind' d x ∷ ws) o ≡ reduce B kind d ws (B.combine kind' x o)
  unfolding reduce
  reduce_one kind d kind' x ws o h = rw (eq-eqb d d refl, le-leb kind kind' h)

  run_append : (ts us : List Token) (s : ParserState Left Made) → run B (ts ++ us) s ≡ run B us (run B ts s)
  unfolding run
  run_append [] us s = refl
  run_append (t ∷ ts) us s = run_append ts us (step B t s)

  -- what the tokens of each layer do to the stack
  abbrev Built : Layer → ℕ → List (Waiting Left) → Made → Tree → ParserState Left Made → Type 0
  Built factor d ws o t s = s ≡ completed B d ws (after t o)
  Built conjunction d ws o t s = s ≡ state d ws (after t o)
  Built disjunction d ws o t s = ended B s ≡ state d ws (after t o)

  abbrev limit : Layer → ℕ → ℕ
  limit factor d = 3 * d + 6
  limit conjunction d = 3 * d + and_kind
  limit disjunction d = 3 * d + or_kind

  layer_builds : {l : Layer} {ts : List Token} {t : Tree} → Derives l ts t → (d : ℕ) (ws : List (Waiting Left)) (o : Made)
      → TopBelow (limit l d) ws → Built l d ws o t (run B ts (state d ws o))
  unfolding run after
  layer_builds (of_number n) d ws o u = refl
  layer_builds of_true d ws o u = refl
  layer_builds of_false d ws o u = refl
  layer_builds (of_not {t = t} r) d ws o u =
      layer_builds r d (waiting not_kind d (B.latest o) ∷ ws) o (omega arith)
      ∙ reduce_one and_kind d not_kind (B.latest o) ws (after t o) (omega arith)
  layer_builds (of_parentheses {ts = ts} {t = t} r) d ws o u =
      run_append ts (close_parenthesis ∷ []) (state (suc d) ws o)
      ∙ ap (leave B) (layer_builds r (suc d) ws o (top_below (3 * d + 6) (3 * suc d + 3) ws (omega arith) u))
      ∙ ap (λ (e : ℕ). completed B e ws (after t o)) (omega arith)
  layer_builds (of_factor {t = t} r) d ws o u =
      layer_builds r d ws o (top_below (3 * d + and_kind) (3 * d + 6) ws (omega arith) u) ∙ reduce_none and_kind d ws (after t o) u
  layer_builds (of_and {ts = ts} {us = us} {t = t} {u = v} p q) d ws o u =
      run_append ts (and_word ∷ us) (state d ws o)
      ∙ ap (λ (s : ParserState Left Made). run B us (shift B and_kind s)) (layer_builds p d ws o u)
      ∙ layer_builds q d (waiting and_kind d (B.latest (after t o)) ∷ ws) (after t o) (omega arith)
      ∙ reduce_one and_kind d and_kind (B.latest (after t o)) ws (after v (after t o)) (omega arith)
      ∙ reduce_none and_kind d ws (after (and_tree t v) o) u
  layer_builds (of_conjunction {t = t} r) d ws o u =
      ap (ended B) (layer_builds r d ws o (top_below (3 * d + or_kind) (3 * d + and_kind) ws (omega arith) u))
      ∙ reduce_none or_kind d ws (after t o) u
  layer_builds (of_or {ts = ts} {us = us} {t = t} {u = v} p q) d ws o u =
      ap (ended B)
      (run_append ts (or_word ∷ us) (state d ws o)
      ∙ ap (λ (s : ParserState Left Made). run B us (shift B or_kind s)) (layer_builds p d ws o u)
      ∙ layer_builds q d (waiting or_kind d (B.latest (after t o)) ∷ ws) (after t o) (omega arith))
      ∙ reduce_one or_kind d or_kind (B.latest (after t o)) ws (after v (after t o)) (omega arith)
      ∙ reduce_none or_kind d ws (after (or_tree t v) o) u

  pub line_builds : {ts : List Token} {t : Tree} → Derives disjunction ts t → (o : Made) → built_from B ts o ≡ after t o
  line_builds r o = ap (λ (s : ParserState Left Made). s.made) (layer_builds r 0 [] o tt)
