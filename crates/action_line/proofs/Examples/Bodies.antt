-- A worked example: the body of document 02 (e)'s own line, `not 3 and 4 or 5`.
use mathlib.Core.Path.{◌≡◌, refl}
use mathlib.Core.List.{[], ◌∷◌}
use Rattle.action_line.specs.Grammar.{action_tree, or_tree, and_tree, not_tree}
use Rattle.action_line.specs.Entries.{entry_total, entries_from, body_of}

own_body :
    body_of (or_tree (and_tree (not_tree (action_tree 3)) (action_tree 4)) (action_tree 5))
    ≡ 6 ∷ 2 ∷ 3 ∷ 0 ∷ 5 ∷ 0 ∷ 0 ∷ 2 ∷ 4 ∷ 0 ∷ 4 ∷ 1 ∷ 2 ∷ 2 ∷ 5 ∷ 0 ∷ 3 ∷ 3 ∷ 4 ∷ []
unfolding body_of entries_from entry_total
own_body = refl
