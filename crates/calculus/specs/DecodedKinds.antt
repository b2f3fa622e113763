-- The equations that a reader expects of the decoding, kind by kind, of bodies that keep the rules of a sheet. They are shown by
-- entries_decoded (proofs/Decoding/Entries.antt) and nodes_decoded (proofs/Decoding/Nodes.antt).
use Rattle.std.specs.Prelude.{ℕ, ◌<◌, ◌≡◌, List}
use Rattle.sheet.specs.Actions.{entry_count, entry_kind, entry_x, entry_y}
use Rattle.sheet.specs.Rule.{node_count, node_kind, node_x, node_y}
use Rattle.sheet.specs.WellFormed.{WellFormedActions, WellFormedRule}
use Rattle.calculus.specs.Formulas.{no_action, any_action, one_action, or_action, and_action, not_action, between}
use Rattle.calculus.specs.Formulas.{false_formula, true_formula, disj, conj, some, every, var, least, greatest}
use Rattle.calculus.specs.Decode.{action_formula, formula}

-- "Kinds: 0 false, 1 true, 2 action x (x below A), 3 x or y, 4 x and y, 5 not x."; document 02 (a): "kind 6: every action from x to y"
pub record EntryDecoded (a : List ℕ) (e : ℕ) : Type 0 where
  pub false_entry_holds : entry_kind a e ≡ 0 → action_formula a e ≡ no_action
  pub true_entry_holds : entry_kind a e ≡ 1 → action_formula a e ≡ any_action
  pub action_entry_holds : entry_kind a e ≡ 2 → action_formula a e ≡ one_action (entry_x a e)
  pub or_entry_holds : entry_kind a e ≡ 3 → action_formula a e ≡ or_action (action_formula a (entry_x a e)) (action_formula a (entry_y a e))
  pub and_entry_holds : entry_kind a e ≡ 4 → action_formula a e ≡ and_action (action_formula a (entry_x a e)) (action_formula a (entry_y a e))
  pub not_entry_holds : entry_kind a e ≡ 5 → action_formula a e ≡ not_action (action_formula a (entry_x a e))
  pub range_entry_holds : entry_kind a e ≡ 6 → action_formula a e ≡ between (entry_x a e) (entry_y a e)

-- of each entry of an action table that keeps its rules
abbrev pub EntriesDecoded : Type 0
EntriesDecoded = (A : ℕ) (a : List ℕ) → WellFormedActions A a → (e : ℕ) → e < entry_count a → EntryDecoded a e

-- "0 F, 1 T, 2 or, 3 and (children x, y), 4 some (diamond), 5 every (box) (x an action entry below the count, y the child), 6 variable x,
-- 7 least, 8 greatest fixed point (x the variable bound, y the child)."
pub record NodeDecoded (a r : List ℕ) (n : ℕ) : Type 0 where
  pub false_node_holds : node_kind r n ≡ 0 → formula a r n ≡ false_formula
  pub true_node_holds : node_kind r n ≡ 1 → formula a r n ≡ true_formula
  pub or_node_holds : node_kind r n ≡ 2 → formula a r n ≡ disj (formula a r (node_x r n)) (formula a r (node_y r n))
  pub and_node_holds : node_kind r n ≡ 3 → formula a r n ≡ conj (formula a r (node_x r n)) (formula a r (node_y r n))
  pub some_node_holds : node_kind r n ≡ 4 → formula a r n ≡ some (action_formula a (node_x r n)) (formula a r (node_y r n))
  pub every_node_holds : node_kind r n ≡ 5 → formula a r n ≡ every (action_formula a (node_x r n)) (formula a r (node_y r n))
  pub variable_node_holds : node_kind r n ≡ 6 → formula a r n ≡ var (node_x r n)
  pub least_node_holds : node_kind r n ≡ 7 → formula a r n ≡ least (node_x r n) (formula a r (node_y r n))
  pub greatest_node_holds : node_kind r n ≡ 8 → formula a r n ≡ greatest (node_x r n) (formula a r (node_y r n))

-- of each node of a rule that keeps its rules, over any action table
abbrev pub NodesDecoded : Type 0
NodesDecoded = (entries : ℕ) (a r : List ℕ) → WellFormedRule entries r → (n : ℕ) → n < node_count r → NodeDecoded a r n
