-- Document 01, "Kind 3, rule": a state formula in preorder. The definitions speak of the body's bytes; entries is the
-- number of action entries.
use Rattle.std.specs.Prelude.{ℕ, zero, suc, ◌+◌, ◌*◌, Bool, false, not, ◌&&◌, List, length, eqb, ltb, leb, Result, Ok, Err}
use Rattle.sheet.specs.Bytes.{byte, pick, lowest}
use Rattle.sheet.specs.declared.Node.{Node}

-- "Count N (1 byte, 1 to 64)"
abbrev pub node_count : List ℕ → ℕ
node_count r = byte r 0

-- "then nodes of kind, x, y": the kind of node n
abbrev pub node_kind : List ℕ → ℕ → ℕ
node_kind r n = byte r (1 + 3 * n)

-- its x
abbrev pub node_x : List ℕ → ℕ → ℕ
node_x r n = byte r (2 + 3 * n)

-- its y
abbrev pub node_y : List ℕ → ℕ → ℕ
node_y r n = byte r (3 + 3 * n)

-- refusal 8: "rule empty, N outside 1 to 64, or length not 1 + 3 × N"
unfoldable pub rule_sized : List ℕ → Bool
rule_sized r = leb 1 (length r) && (leb 1 (node_count r) && (leb (node_count r) 64 && eqb (length r) (1 + 3 * node_count r)))

-- "The reader takes a different course for each kind of node: 0 F, 1 T, 2 or, 3 and (children x, y), 4 some (diamond), 5 every (box) (x an
-- action entry below the count, y the child), 6 variable x, 7 least, 8 greatest fixed point (x the variable bound, y the child)."
pub data Shape : Type 0 where
  leaf pair modal variable binder unknown : Shape

-- the shape of kind k
abbrev pub shape_of : ℕ → Shape
shape_of k =
    pick (ltb k 2) leaf (pick (ltb k 4) pair (pick (ltb k 6) modal (pick (eqb k 6) variable (pick (ltb k 9) binder unknown))))

-- ---- refusal 9: "a node's kind, field or child number"

-- the child number c is the node expected there, and the rule has that node
abbrev pub child_is : List ℕ → ℕ → ℕ → Bool
child_is r c expected = eqb c expected && ltb expected (node_count r)

-- what reading the subtree of a node gives: the place after it, or the first faulty node met in it
abbrev pub Extent : Type 0
Extent = Result ℕ Node

-- node n is faulty
abbrev pub fault_at : ℕ → Extent
fault_at n = Err (record { 0 = n })

-- "a second child the first node after the first child's part" (its subtree): a fault in the first child's subtree stands; else y must be
-- the node where that subtree ended
abbrev pub second : (ℕ → Extent) → List ℕ → ℕ → Extent → Extent
second go r n (Err m) = Err m
second go r n (Ok e) = pick (child_is r (node_y r n) e) (go e) (fault_at n)

-- The subtree of node n, where go gives the subtree of a later node: the node after it, or the first fault met in preorder. "a first or
-- only child is the next node"; "Unused fields are 0"; the entry of a modality is below the count; "a second child's number being looked at
-- after the first child's part"; "a missing child the fault of its parent". The x of a variable and of a binder is left to refusal 10.
abbrev pub course : (ℕ → Extent) → ℕ → List ℕ → ℕ → Shape → Extent
course go entries r n leaf = pick (eqb (node_x r n) 0 && eqb (node_y r n) 0) (Ok (n + 1)) (fault_at n)
course go entries r n pair = pick (child_is r (node_x r n) (n + 1)) (second go r n (go (n + 1))) (fault_at n)
course go entries r n modal = pick (ltb (node_x r n) entries && child_is r (node_y r n) (n + 1)) (go (n + 1)) (fault_at n)
course go entries r n variable = pick (eqb (node_y r n) 0) (Ok (n + 1)) (fault_at n)
course go entries r n binder = pick (child_is r (node_y r n) (n + 1)) (go (n + 1)) (fault_at n)
course go entries r n unknown = fault_at n

-- the subtree of node n; depth is at least the number of nodes from n on, so that it never runs out
unfoldable pub extent : ℕ → ℕ → List ℕ → ℕ → Extent
extent zero entries r n = fault_at n
extent (suc depth) entries r n = course (extent depth entries r) entries r n (shape_of (node_kind r n))

-- the first fault met in preorder, or N where there is none: a fault in the root's subtree; else the node where that subtree ends, which
-- before N is "a node left over being faulty itself" ("nothing follows the root's part")
abbrev pub first_fault : Extent → ℕ
first_fault (Err m) = m.0
first_fault (Ok e) = e

-- the place of refusal 9; N where there is none
abbrev pub syntax_fault : ℕ → List ℕ → ℕ
syntax_fault entries r = first_fault (extent (node_count r) entries r 0)

-- ---- refusal 10: "a binder number, a seventh binder, or a variable not below its binder"

-- "Binders (kinds 7, 8)": fixed point operators
abbrev pub is_binder : List ℕ → ℕ → Bool
is_binder r n = leb 7 (node_kind r n) && ltb (node_kind r n) 9

-- 1 where b holds
abbrev pub one_if : Bool → ℕ
one_if b = pick b 1 0

-- how many of the nodes 0 to n - 1 are binders
unfoldable pub binders_before : List ℕ → ℕ → ℕ
binders_before r zero = 0
binders_before r (suc n) = binders_before r n + one_if (is_binder r n)

-- "B, their number"
abbrev pub binder_count : List ℕ → ℕ
binder_count r = binders_before r (node_count r)

-- "Binders (kinds 7, 8), in preorder, bind variables 0, 1, 2 and so on": node n binds variable k
abbrev pub binds_at : List ℕ → ℕ → ℕ → Bool
binds_at r k n = is_binder r n && eqb (binders_before r n) k

-- the node that binds variable k, or N where there is none
unfoldable pub binder_node : List ℕ → ℕ → ℕ
binder_node r k = lowest (binds_at r k) (node_count r)

-- The first node after the subtree of node n, where go gives that of a later node: after its last child's subtree, and a node with no child
-- is its whole subtree.
abbrev pub end_course : (ℕ → ℕ) → List ℕ → ℕ → Shape → ℕ
end_course go r n leaf = n + 1
end_course go r n pair = go (node_y r n)
end_course go r n modal = go (n + 1)
end_course go r n variable = n + 1
end_course go r n binder = go (n + 1)
end_course go r n unknown = n + 1

-- the same down to a depth
unfoldable pub end_within : ℕ → List ℕ → ℕ → ℕ
end_within zero r n = n
end_within (suc depth) r n = end_course (end_within depth r) r n (shape_of (node_kind r n))

-- For a rule that refusals 8 and 9 let pass a depth of 64 nodes is enough. On other bytes this has a value too, which means nothing.
abbrev pub subtree_end : List ℕ → ℕ → ℕ
subtree_end r n = end_within 64 r n

-- "below": node n is in the subtree of node b, and not b itself
abbrev pub below : List ℕ → ℕ → ℕ → Bool
below r b n = ltb b n && ltb n (subtree_end r b)

-- a variable: "A variable node stands below its binder."; a binder: "bind variables 0, 1, 2 and so on; B, their number, is at most 6"
abbrev pub binding_wrong : List ℕ → ℕ → Shape → Bool
binding_wrong r n leaf = false
binding_wrong r n pair = false
binding_wrong r n modal = false
binding_wrong r n variable = not (below r (binder_node r (node_x r n)) n)
binding_wrong r n binder = not (eqb (node_x r n) (binders_before r n) && ltb (binders_before r n) 6)
binding_wrong r n unknown = false

-- node n breaks a rule of refusal 10
unfoldable pub binding_faulty : List ℕ → ℕ → Bool
binding_faulty r n = binding_wrong r n (shape_of (node_kind r n))

-- the place of refusal 10, "the lowest faulty .. node"; N where there is none
abbrev pub lowest_binding : List ℕ → ℕ
lowest_binding r = lowest (binding_faulty r) (node_count r)
