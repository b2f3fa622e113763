-- What the rows join to, in the terms of the evaluator of Table 1.
use Rattle.std.proofs.Common.{◌≡◌, ℕ, Bool, true, false, not, ◌&&◌, ◌||◌, eqb, List, [], ◌∷◌, refl, ◌∙◌, ap₂, eqb-true}
use mathlib.Core.List.{Memᴰ}
use Rattle.sheet.specs.Bytes.{pick}
use Rattle.sheet.proofs.Checks.Checks.{and_parts}
use Rattle.sheet.specs.TransitionSystem.{LabelledTransition, Plan}
use Rattle.calculus.specs.Meaning.{meets}
use Rattle.calculus.specs.Decode.{action_formula}
use Rattle.calculus.specs.Eval.{any_transition as any, departs as leaves}
use Rattle.rows.specs.Rows.{disjunction, conjunction, joined}
use Rattle.judge.specs.Cells.{Cell, cell, following}
use Rattle.rows.proofs.Solver.JoinedValues.{or_cons, and_cons}
use Rattle.rows.proofs.Systems.Changed.{joined_constant}

de_morgan : (a b : Bool) → (a && not b) ≡ not (not a || b)
de_morgan true b = refl
de_morgan false b = refl

-- the cells that follow a state, where they have the values of a set at the states
module _ (P : Plan) (a : List ℕ) (e d s : ℕ) (v : Cell → Bool) (U : ℕ → Bool) where
  abbrev Same : List LabelledTransition → Type 0
  Same ts = (t : LabelledTransition) → Memᴰ t ts → t.origin ≡ s → v (cell 0 d t.target) ≡ U t.target

  -- the first of the cells, by a transition that is taken
  first : (x : LabelledTransition) (ts : List LabelledTransition) → Same (x ∷ ts) → leaves P (action_formula a e) s x ≡ true
      → v (cell 0 d x.target) ≡ U x.target
  unfolding leaves
  first x ts h q =
      let here = (and_parts (eqb x.origin s) (meets P.actions (action_formula a e) x.action) q).0 in
      h x (Memᴰ.head refl) (eqb-true x.origin s here)

  pub some_joined : (ts : List LabelledTransition) → Same ts
      → joined disjunction v (following P.actions a e d s ts) ≡ any (λ t. leaves P (action_formula a e) s t && U t.target) ts
  unfolding following any leaves
  some_joined [] h = joined_constant false v
  some_joined (x ∷ ts) h = go (leaves P (action_formula a e) s x) refl (some_joined ts (λ t m o. h t (Memᴰ.tail m) o))
    where
      l : List Cell
      l = following P.actions a e d s ts

      rest : Bool
      rest = any (λ t. leaves P (action_formula a e) s t && U t.target) ts

      go : (b : Bool) → leaves P (action_formula a e) s x ≡ b → joined disjunction v l ≡ rest
          → joined disjunction v (pick b (cell 0 d x.target ∷ l) l) ≡ ((b && U x.target) || rest)
      go true q i = or_cons v (cell 0 d x.target) l ∙ ap₂ ◌||◌ (first x ts h q) i
      go false q i = i

  pub every_joined : (ts : List LabelledTransition) → Same ts
      → joined conjunction v (following P.actions a e d s ts) ≡ not (any (λ t. leaves P (action_formula a e) s t && not (U t.target)) ts)
  unfolding following any leaves
  every_joined [] h = joined_constant true v
  every_joined (x ∷ ts) h = go (leaves P (action_formula a e) s x) refl (every_joined ts (λ t m o. h t (Memᴰ.tail m) o))
    where
      l : List Cell
      l = following P.actions a e d s ts

      rest : Bool
      rest = any (λ t. leaves P (action_formula a e) s t && not (U t.target)) ts

      go : (b : Bool) → leaves P (action_formula a e) s x ≡ b → joined conjunction v l ≡ not rest
          → joined conjunction v (pick b (cell 0 d x.target ∷ l) l) ≡ not ((b && not (U x.target)) || rest)
      go true q i = and_cons v (cell 0 d x.target) l ∙ ap₂ ◌&&◌ (first x ts h q) i ∙ de_morgan (U x.target) rest
      go false q i = i
