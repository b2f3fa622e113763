-- Document 01, "Kind 3, rule": the kinds of nodes by name, and how many children a node of each has.
use Rattle.std.specs.Prelude.{ℕ, eqb}
use Rattle.sheet.specs.Bytes.{pick}

-- "0 F, 1 T, 2 or, 3 and (children x, y), 4 some (diamond), 5 every (box) (x an action entry below the count, y the child), 6 variable x,
-- 7 least, 8 greatest fixed point (x the variable bound, y the child)."
pub data NodeSort : Type 0 where
  false_node true_node or_node and_node some_node every_node variable_node least_node greatest_node unknown_node : NodeSort

-- the kind of a node by its number, unknown_node for a number over 8; specs/Rule.antt groups the same kinds by the reader's courses
-- (`Shape`)
abbrev pub node_sort : ℕ → NodeSort
node_sort k =
    pick (eqb k 0) false_node
    (pick (eqb k 1) true_node
    (pick (eqb k 2) or_node
    (pick (eqb k 3) and_node
    (pick (eqb k 4) some_node
    (pick (eqb k 5) every_node
    (pick (eqb k 6) variable_node (pick (eqb k 7) least_node (pick (eqb k 8) greatest_node unknown_node))))))))

-- How many children a node has (its arity): of or and and "(children x, y)", of some, every, least and greatest ".. y the child". F, T and
-- a variable have none, and what is no kind has none either.
abbrev pub sort_children : NodeSort → ℕ
sort_children false_node = 0
sort_children true_node = 0
sort_children or_node = 2
sort_children and_node = 2
sort_children some_node = 1
sort_children every_node = 1
sort_children variable_node = 0
sort_children least_node = 1
sort_children greatest_node = 1
sort_children unknown_node = 0

-- document 02 (d): "how many children each node kind has"
abbrev pub child_count : ℕ → ℕ
child_count k = sort_children (node_sort k)
