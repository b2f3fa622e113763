-- Document 02 (c): what a pattern with the rule p becomes, as a syntax tree. The nodes that a pattern makes have the flag of its leading
-- byte: "some", "or" and least for some run, and '"Every run" is the mirror, with "every", "and" and greatest.' Those of p keep theirs.
use Rattle.std.specs.Prelude.{ℕ, suc, ◌+◌, Bool}
use Rattle.calculus.specs.Trees.{Tree, constant, pair, modal, variable, binder, binders}
use Rattle.patterns.specs.Patterns.{Pattern, action, sequence, choice, repetition}

-- "Binders are renumbered.": those of p, in each copy. Every variable of a tree raised by n, so that its own binders, 0, 1, 2 and so on,
-- follow n others.
unfoldable pub raised : ℕ → Tree → Tree
raised n (constant b) = constant b
raised n (pair b l r) = pair b (raised n l) (raised n r)
raised n (modal b e t) = modal b e (raised n t)
raised n (variable X) = variable (n + X)
raised n (binder b X t) = binder b (n + X) (raised n t)

-- A pattern before what follows it: `before every R k n`, where n binders stand before the tree in preorder, so that its first binder binds
-- variable n ("Binders are renumbered.": those of repetitions). What follows may stand in several places, with other numbers in each: `k n`
-- is what follows where n binders stand before it.
unfoldable pub before : Bool → Pattern → (ℕ → Tree) → ℕ → Tree
-- 'an action is a "some"'
before every (action e) k n = modal every e (k n)
-- "a sequence nests": the first part before the second before what follows
before every (sequence R Q) k n = before every R (before every Q k) n
-- 'a choice is an "or" that copies what follows'
before every (choice R Q) k n = pair every (before every R k n) (before every Q k (n + binders (before every R k n)))
-- "repetition of R is least X of what follows or R-then-X": X is variable n, which stands wherever R ends
before every (repetition R) k n =
    binder every n (pair every (k (suc n)) (before every R (λ m. variable n) (suc n + binders (k (suc n)))))

-- the rule p, as a tree, stands where the pattern ends, in every copy
unfoldable pub translation : Bool → Pattern → Tree → Tree
translation every R p = before every R (λ n. raised n p) 0
