-- Worked examples: document 02 (c)'s "any number of probes, then a cut", read and translated; a choice, which copies the rule's binder.
use Prim.Native.Nat.{ℕ}
use mathlib.Core.Path.{◌≡◌, refl}
use mathlib.Core.Bool.{true, false}
use mathlib.Core.List.{[], ◌∷◌}
use Rattle.calculus.specs.Trees.{Tree, constant, pair, modal, variable, binder, tree_size, binders, nodes_from, encode}
use Rattle.patterns.specs.Patterns.{Pattern, action, sequence, choice, repetition, readable, parts_of, reading_of}
use Rattle.patterns.specs.Translation.{raised, before, translation}

-- entry 0 is a probe, entry 1 a cut
abbrev probes_then_cut : Pattern
probes_then_cut = sequence (repetition (action 0)) (action 1)

reading_example : reading_of 2 (0 ∷ 1 ∷ 3 ∷ 0 ∷ 0 ∷ 0 ∷ 1 ∷ []) ≡ readable false probes_then_cut
unfolding reading_of parts_of
reading_example = refl

-- the rule p is T: least X of "some cut into p" or "some probe into X"
some_example :
    translation false probes_then_cut (constant true)
    ≡ binder false 0 (pair false (modal false 1 (constant true)) (modal false 0 (variable 0)))
unfolding translation before raised
some_example = refl

-- its 6 nodes: least 0, or, some 1, T, some 0, variable 0
body_example :
    encode (translation false probes_then_cut (constant true))
    ≡ 6 ∷ 7 ∷ 0 ∷ 1 ∷ 2 ∷ 2 ∷ 4 ∷ 4 ∷ 1 ∷ 3 ∷ 1 ∷ 0 ∷ 0 ∷ 4 ∷ 0 ∷ 5 ∷ 6 ∷ 0 ∷ 0 ∷ []
unfolding translation before raised encode nodes_from tree_size
body_example = refl

-- the mirror: greatest X of "every cut into p" and "every probe into X"
every_example :
    translation true probes_then_cut (constant true)
    ≡ binder true 0 (pair true (modal true 1 (constant true)) (modal true 0 (variable 0)))
unfolding translation before raised
every_example = refl

-- the rule p is "greatest Y of some probe into Y", with the number n for Y
abbrev endless_probes : ℕ → Tree
endless_probes n = binder true n (modal false 0 (variable n))

-- a choice copies p, and the binders of the copies bind 0 and 1
choice_example :
    translation false (choice (action 0) (action 1)) (endless_probes 0)
    ≡ pair false (modal false 0 (endless_probes 0)) (modal false 1 (endless_probes 1))
unfolding translation before raised binders
choice_example = refl
