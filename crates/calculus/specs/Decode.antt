-- The action formulas and the rule that the bodies of a sheet hold, in the terms of Table 1 and of document 02 (a). The plan is decoded in
-- the crate sheet (specs/TransitionSystem.antt).
use Rattle.std.specs.Prelude.{ℕ, zero, suc, Bool, true, false, List, ltb, eqb}
use Rattle.sheet.specs.Bytes.{pick}
use Rattle.sheet.specs.Actions.{entry_kind, entry_x, entry_y}
use Rattle.sheet.specs.Rule.{node_kind, node_x, node_y}
use Rattle.sheet.specs.Kinds.{NodeSort, node_sort, unknown_node}
use Rattle.sheet.specs.Kinds.{false_node, true_node, or_node, and_node, some_node, every_node, variable_node, least_node, greatest_node}
use Rattle.calculus.specs.Formulas.{ActionFormula, no_action, any_action, one_action, or_action, and_action, not_action, between}
use Rattle.calculus.specs.Formulas.{Formula, false_formula, true_formula, disj, conj, some, every, var, least, greatest}

-- ---- document 01, "Kind 2, action formulas", with kind 6 of document 02 (a)

-- "Operands of 3, 4, 5 are entry numbers below their own": entry x as an operand, if it is below; any other number, which no accepted
-- sheet has, stands for F
abbrev pub operand : (ℕ → ActionFormula) → ℕ → Bool → ActionFormula
operand go x true = go x
operand go x false = no_action

-- "Kinds: 0 false, 1 true, 2 action x (x below A), 3 x or y, 4 x and y, 5 not x."; document 02 (a): "kind 6: every action from x to y"
pub data EntrySort : Type 0 where
  false_entry true_entry action_entry or_entry and_entry not_entry range_entry unknown_entry : EntrySort

-- the kind of an entry by its number
abbrev pub entry_sort : ℕ → EntrySort
entry_sort k =
    pick (eqb k 0) false_entry
    (pick (eqb k 1) true_entry
    (pick (eqb k 2) action_entry
    (pick (eqb k 3) or_entry (pick (eqb k 4) and_entry (pick (eqb k 5) not_entry (pick (eqb k 6) range_entry unknown_entry))))))

-- the formula of entry e by its sort, where go gives the formulas of the entries before it
abbrev pub entry_formula : (ℕ → ActionFormula) → List ℕ → ℕ → EntrySort → ActionFormula
entry_formula go a e false_entry = no_action
entry_formula go a e true_entry = any_action
entry_formula go a e action_entry = one_action (entry_x a e)
entry_formula go a e or_entry = or_action (operand go (entry_x a e) (ltb (entry_x a e) e)) (operand go (entry_y a e) (ltb (entry_y a e) e))
entry_formula go a e and_entry = and_action (operand go (entry_x a e) (ltb (entry_x a e) e)) (operand go (entry_y a e) (ltb (entry_y a e) e))
entry_formula go a e not_entry = not_action (operand go (entry_x a e) (ltb (entry_x a e) e))
entry_formula go a e range_entry = between (entry_x a e) (entry_y a e)
-- no accepted sheet has another kind
entry_formula go a e unknown_entry = no_action

-- the formula of entry e; since "Operands .. are entry numbers below their own", every depth above e gives it
unfoldable pub action_within : ℕ → List ℕ → ℕ → ActionFormula
action_within zero a e = no_action
action_within (suc depth) a e = entry_formula (action_within depth a) a e (entry_sort (entry_kind a e))

-- the formula of entry e of the action table a
abbrev pub action_formula : List ℕ → ℕ → ActionFormula
action_formula a e = action_within (suc e) a e

-- ---- document 01, "Kind 3, rule"

-- The formula of node n by its sort, where go gives the formulas of nodes: or and and "(children x, y)", some and every "(x an action entry
-- below the count, y the child)", least and greatest "(x the variable bound, y the child)".
abbrev pub node_formula : (ℕ → Formula) → List ℕ → List ℕ → ℕ → NodeSort → Formula
node_formula go a r n false_node = false_formula
node_formula go a r n true_node = true_formula
node_formula go a r n or_node = disj (go (node_x r n)) (go (node_y r n))
node_formula go a r n and_node = conj (go (node_x r n)) (go (node_y r n))
node_formula go a r n some_node = some (action_formula a (node_x r n)) (go (node_y r n))
node_formula go a r n every_node = every (action_formula a (node_x r n)) (go (node_y r n))
node_formula go a r n variable_node = var (node_x r n)
node_formula go a r n least_node = least (node_x r n) (go (node_y r n))
node_formula go a r n greatest_node = greatest (node_x r n) (go (node_y r n))
-- no accepted sheet has another kind
node_formula go a r n unknown_node = false_formula

-- The formula at node n. "a first or only child is the next node, a second child the first node after the first child's part": every depth
-- of at least the number of nodes of its part gives it.
unfoldable pub formula_within : ℕ → List ℕ → List ℕ → ℕ → Formula
formula_within zero a r n = false_formula
formula_within (suc depth) a r n = node_formula (formula_within depth a r) a r n (node_sort (node_kind r n))

-- the formula at node n of the rule r over the action formulas a; "Count N (1 byte, 1 to 64)"
abbrev pub formula : List ℕ → List ℕ → ℕ → Formula
formula a r n = formula_within 64 a r n
