-- Document 02 (e): what a line says. Its reading is a syntax tree.
use Rattle.std.specs.Prelude.{ℕ, ◌≡◌, List, [], ◌∷◌, ◌++◌, ◌⊎◌}
use Rattle.calculus.specs.Formulas.{ActionFormula, no_action, any_action, one_action, or_action, and_action, not_action}
use Rattle.action_line.specs.Tokens.{Token, number, true_word, false_word, not_word, and_word, or_word, open_parenthesis, close_parenthesis}
use Rattle.action_line.specs.Tokens.{Spells}

pub data Tree : Type 0 where
  false_tree true_tree : Tree
  action_tree : ℕ → Tree
  or_tree and_tree : Tree → Tree → Tree
  not_tree : Tree → Tree

-- the action formula of Table 1 that it stands for
unfoldable pub formula_of : Tree → ActionFormula
formula_of false_tree = no_action
formula_of true_tree = any_action
formula_of (action_tree n) = one_action n
formula_of (or_tree t u) = or_action (formula_of t) (formula_of u)
formula_of (and_tree t u) = and_action (formula_of t) (formula_of u)
formula_of (not_tree t) = not_action (formula_of t)

-- the tree has this action number
unfoldable pub Mentions : Tree → ℕ → Type 0
Mentions false_tree a = ⊥
Mentions true_tree a = ⊥
Mentions (action_tree n) a = a ≡ n
Mentions (or_tree t u) a = Mentions t a ⊎ Mentions u a
Mentions (and_tree t u) a = Mentions t a ⊎ Mentions u a
Mentions (not_tree t) a = Mentions t a

-- "`not` binds tightest, then `and`, then `or`": the layers of the grammar. A factor is a number, `true`, `false`, `not` with a factor, or
-- a disjunction in parentheses; a conjunction is factors with `and` between them; a disjunction is conjunctions with `or` between them.
pub data Layer : Type 0 where
  factor conjunction disjunction : Layer

-- the tokens, read as this layer, say the tree
pub data Derives : Layer → List Token → Tree → Type 0 where
  of_number : (n : ℕ) → Derives factor (number n ∷ []) (action_tree n)
  of_true : Derives factor (true_word ∷ []) true_tree
  of_false : Derives factor (false_word ∷ []) false_tree
  of_not : {ts : List Token} {t : Tree} → Derives factor ts t → Derives factor (not_word ∷ ts) (not_tree t)
  of_parentheses : {ts : List Token} {t : Tree} → Derives disjunction ts t
      → Derives factor (open_parenthesis ∷ (ts ++ close_parenthesis ∷ [])) t
  of_factor : {ts : List Token} {t : Tree} → Derives factor ts t → Derives conjunction ts t
  -- "equal ones group to the left": the left operand may itself be one with `and`
  of_and : {ts us : List Token} {t u : Tree} → Derives conjunction ts t → Derives factor us u
      → Derives conjunction (ts ++ and_word ∷ us) (and_tree t u)
  of_conjunction : {ts : List Token} {t : Tree} → Derives conjunction ts t → Derives disjunction ts t
  -- "equal ones group to the left"
  of_or : {ts us : List Token} {t u : Tree} → Derives disjunction ts t → Derives conjunction us u
      → Derives disjunction (ts ++ or_word ∷ us) (or_tree t u)

-- "the line's reading": its tokens, read as a disjunction, say the tree
pub record Reading (line : List ℕ) (t : Tree) : Type 0 where
  pub tokens : List Token
  pub spelled : Spells line tokens
  pub derived : Derives disjunction tokens t
