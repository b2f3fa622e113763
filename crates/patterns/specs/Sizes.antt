-- How large a translation gets, for rule writers (docs/PATTERNS.md, section 5). Since 'a choice is an "or" that copies what follows', the
-- rule p stands in it a number of times that the pattern alone fixes, as it does the nodes and binders that are not p's.
use Rattle.std.specs.Prelude.{ℕ, ◌+◌, ◌*◌, ◌≡◌, Bool}
use Rattle.calculus.specs.Trees.{Tree, tree_size, binders}
use Rattle.patterns.specs.Patterns.{Pattern, action, sequence, choice, repetition}
use Rattle.patterns.specs.Translation.{translation}

-- in how many places what follows a pattern stands
unfoldable pub copies : Pattern → ℕ
copies (action e) = 1
copies (sequence R Q) = copies R * copies Q
copies (choice R Q) = copies R + copies Q
-- R stands before X, not before what follows
copies (repetition R) = 1

-- how many nodes are not of what follows
unfoldable pub fixed_nodes : Pattern → ℕ
fixed_nodes (action e) = 1
-- Q follows R
fixed_nodes (sequence R Q) = fixed_nodes R + copies R * fixed_nodes Q
fixed_nodes (choice R Q) = 1 + fixed_nodes R + fixed_nodes Q
-- a binder, an "or" or "and", and X wherever R ends
fixed_nodes (repetition R) = 2 + fixed_nodes R + copies R

-- how many binders are not of what follows: those of the repetitions
unfoldable pub own_binders : Pattern → ℕ
own_binders (action e) = 0
own_binders (sequence R Q) = own_binders R + copies R * own_binders Q
own_binders (choice R Q) = own_binders R + own_binders Q
own_binders (repetition R) = 1 + own_binders R

-- the size of what the pattern R becomes with the rule p
pub record SizeOf (every : Bool) (R : Pattern) (p : Tree) : Type 0 where
  pub nodes_are : tree_size (translation every R p) ≡ fixed_nodes R + copies R * tree_size p
  pub binders_are : binders (translation every R p) ≡ own_binders R + copies R * binders p

-- of some run and every run, every pattern and every rule; shown by sizes_exactly of proofs/Translation/Sizes.antt
abbrev pub SizesExactly : Type 0
SizesExactly = (every : Bool) (R : Pattern) (p : Tree) → SizeOf every R p
