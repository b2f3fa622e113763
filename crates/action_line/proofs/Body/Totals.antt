-- The pass counts and looks at tokens; what it finds out is so of the tree that they say.
use Prim.Native.Nat.{ℕ, ◌+◌, ◌<◌, ◌≤◌}
use mathlib.Core.Path.{◌≡◌, refl, sym, ap₂, ◌∙◌}
use mathlib.Core.Bool.{Bool, true, false, ◌&&◌, and-true, and_assoc, false≢true}
use mathlib.Core.List.{List, [], ◌∷◌, ◌++◌}
use mathlib.Core.Logic.{◌⊎◌, inl, inr}
use native.Mathlib.Omega.{arith}
use lib.Dec.{ltb}
use borrow.Author.Tests.{ltb-true, ltb-false}
use Rattle.sheet.proofs.Checks.Checks.{and_parts}
use Rattle.action_line.specs.Tokens.{Token, and_word, or_word, close_parenthesis}
use Rattle.action_line.specs.Grammar.{Tree, false_tree, true_tree, action_tree, or_tree, and_tree, not_tree, Mentions}
use Rattle.action_line.specs.Grammar.{Layer, Derives, of_number, of_true, of_false, of_not, of_parentheses, of_factor, of_and, of_conjunction, of_or}
use Rattle.action_line.specs.Entries.{entry_total, word_total, OneEntryEach}
use Rattle.action_line.specs.Parsing.{actions_below}
use Rattle.action_line.specs.ParseCorrect.{KnownActions}
use Rattle.action_line.specs.Internal.Checking.{known, all_known}

-- ---- one entry for each number and word

entries_append : (ts us : List Token) → word_total (ts ++ us) ≡ word_total ts + word_total us
unfolding word_total
entries_append [] us = omega arith
entries_append (t ∷ ts) us = omega (arith, entries_append ts us)

pub derived_entries : {l : Layer} {ts : List Token} {t : Tree} → Derives l ts t → word_total ts ≡ entry_total t
unfolding word_total entry_total
derived_entries (of_number n) = refl
derived_entries of_true = refl
derived_entries of_false = refl
derived_entries (of_not r) = omega (arith, derived_entries r)
derived_entries (of_parentheses {ts = ts} r) = omega (arith, entries_append ts (close_parenthesis ∷ []), derived_entries r)
derived_entries (of_factor r) = derived_entries r
derived_entries (of_and {ts = ts} {us = us} p q) =
    omega (arith, entries_append ts (and_word ∷ us), derived_entries p, derived_entries q)
derived_entries (of_conjunction r) = derived_entries r
derived_entries (of_or {ts = ts} {us = us} p q) = omega (arith, entries_append ts (or_word ∷ us), derived_entries p, derived_entries q)

pub one_entry_each : OneEntryEach
one_entry_each line t r = sym (derived_entries r.derived)

-- ---- no action from A on

module _ (A : ℕ) where
  known_append : (ts us : List Token) → all_known A (ts ++ us) ≡ (all_known A ts && all_known A us)
  unfolding all_known
  known_append [] us = refl
  known_append (t ∷ ts) us = rw (known_append ts us) (sym (and_assoc (known A t) (all_known A ts) (all_known A us)))

  pub derived_known : {l : Layer} {ts : List Token} {t : Tree} → Derives l ts t → all_known A ts ≡ actions_below A t
  unfolding all_known actions_below
  derived_known (of_number n) = and-true (ltb n A)
  derived_known of_true = refl
  derived_known of_false = refl
  derived_known (of_not r) = derived_known r
  derived_known (of_parentheses {ts = ts} r) = known_append ts (close_parenthesis ∷ []) ∙ and-true (all_known A ts) ∙ derived_known r
  derived_known (of_factor r) = derived_known r
  derived_known (of_and {ts = ts} {us = us} p q) = known_append ts (and_word ∷ us) ∙ ap₂ ◌&&◌ (derived_known p) (derived_known q)
  derived_known (of_conjunction r) = derived_known r
  derived_known (of_or {ts = ts} {us = us} p q) = known_append ts (or_word ∷ us) ∙ ap₂ ◌&&◌ (derived_known p) (derived_known q)

  -- ---- the same of a tree, by the actions that it mentions

  of_both : {t u : Tree} → KnownActions A t → KnownActions A u → (a : ℕ) → Mentions t a ⊎ Mentions u a → a < A
  of_both k h a (inl m) = k.below a m
  of_both k h a (inr m) = h.below a m

  pub below_known : (t : Tree) → actions_below A t ≡ true → KnownActions A t
  unfolding actions_below Mentions
  below_known false_tree h = record { below = λ a m. absurd m }
  below_known true_tree h = record { below = λ a m. absurd m }
  below_known (action_tree n) h = record { below = λ a m. rw m (ltb-true n A h) }
  below_known (or_tree t u) h =
      let k = and_parts (actions_below A t) (actions_below A u) h in
      record { below = of_both (below_known t k.0) (below_known u k.1) }
  below_known (and_tree t u) h =
      let k = and_parts (actions_below A t) (actions_below A u) h in
      record { below = of_both (below_known t k.0) (below_known u k.1) }
  below_known (not_tree t) h = record { below = (below_known t h).below }

  abbrev Unknown : Tree → Type 0
  Unknown t = (a : ℕ) × Mentions t a × (A ≤ a)

  of_one : (t u : Tree) (p q : Bool) → (p ≡ false → Unknown t) → (q ≡ false → Unknown u) → (p && q) ≡ false
      → (a : ℕ) × (Mentions t a ⊎ Mentions u a) × (A ≤ a)
  of_one t u false q f g h = let k = f refl in (k.0, inl k.1, k.2)
  of_one t u true q f g h = let k = g h in (k.0, inr k.1, k.2)

  pub unknown_mentioned : (t : Tree) → actions_below A t ≡ false → Unknown t
  unfolding actions_below Mentions
  unknown_mentioned false_tree h = absurd (false≢true (sym h))
  unknown_mentioned true_tree h = absurd (false≢true (sym h))
  unknown_mentioned (action_tree n) h = (n, refl, ltb-false n A h)
  unknown_mentioned (or_tree t u) h =
      of_one t u (actions_below A t) (actions_below A u) (λ q. unknown_mentioned t q) (λ q. unknown_mentioned u q) h
  unknown_mentioned (and_tree t u) h =
      of_one t u (actions_below A t) (actions_below A u) (λ q. unknown_mentioned t q) (λ q. unknown_mentioned u q) h
  unknown_mentioned (not_tree t) h = unknown_mentioned t h
