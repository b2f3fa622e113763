-- A line is read as a tree exactly where the tree is its reading, and a line has only one reading.
use Prim.Native.Nat.{ℕ}
use mathlib.Core.Path.{◌≡◌, refl, sym, ap, ap₂, subst, ◌∙◌}
use mathlib.Core.Bool.{Bool, true, false}
use mathlib.Core.List.{List, [], ◌∷◌, ◌++◌}
use native.Mathlib.Omega.{arith}
use Rattle.sheet.specs.Bytes.{pick}
use Rattle.action_line.specs.Tokens.{Token, and_word, or_word, close_parenthesis}
use Rattle.action_line.specs.Grammar.{Tree, false_tree, true_tree, action_tree, or_tree, and_tree, not_tree}
use Rattle.action_line.specs.Grammar.{Layer, disjunction, Derives, Reading}
use Rattle.action_line.specs.Grammar.{
  of_number,
  of_true,
  of_false,
  of_not,
  of_parentheses,
  of_factor,
  of_and,
  of_conjunction,
  of_or,
}
use Rattle.action_line.specs.Lexing.{lex_after, tokens_of}
use Rattle.action_line.specs.Reading.{scan, readable_tokens, trees, tree_of, unreadable, readable, reading_of}
use Rattle.action_line.specs.Reading.{ReadingsExactly, EmptyUnreadable, OneReading}
use Rattle.action_line.proofs.Reading.Building.{after, line_builds}
use Rattle.action_line.proofs.Reading.Readable.{readable_iff}
use Rattle.action_line.proofs.Reading.Spelling.{AllValid, spelled_lexed, lexed_spelled}

-- ---- the tree that tokens say

-- a tree makes itself
after_trees : (t u : Tree) → after trees t u ≡ t
unfolding after
after_trees false_tree v = refl
after_trees true_tree v = refl
after_trees (action_tree n) v = refl
after_trees (or_tree t u) v = ap₂ or_tree (after_trees t v) (after_trees u (after trees t v))
after_trees (and_tree t u) v = ap₂ and_tree (after_trees t v) (after_trees u (after trees t v))
after_trees (not_tree t) v = ap not_tree (after_trees t v)

pub tree_of_lem : {ts : List Token} {t : Tree} → Derives disjunction ts t → tree_of ts ≡ t
tree_of_lem {t = t} r = line_builds trees r false_tree ∙ after_trees t false_tree

-- ---- none of the tokens is invalid

valid_append : (ts us : List Token) → AllValid ts → AllValid us → AllValid (ts ++ us)
valid_append [] us v w = w
valid_append (t ∷ ts) us v w = (v.0, valid_append ts us v.1 w)

pub derived_valid : {l : Layer} {ts : List Token} {t : Tree} → Derives l ts t → AllValid ts
derived_valid (of_number n) = (tt, tt)
derived_valid of_true = (tt, tt)
derived_valid of_false = (tt, tt)
derived_valid (of_not r) = (tt, derived_valid r)
derived_valid (of_parentheses {ts = ts} r) = (tt, valid_append ts (close_parenthesis ∷ []) (derived_valid r) (tt, tt))
derived_valid (of_factor r) = derived_valid r
derived_valid (of_and {ts = ts} {us = us} p q) = valid_append ts (and_word ∷ us) (derived_valid p) (tt, derived_valid q)
derived_valid (of_conjunction r) = derived_valid r
derived_valid (of_or {ts = ts} {us = us} p q) = valid_append ts (or_word ∷ us) (derived_valid p) (tt, derived_valid q)

-- ---- lines

pub derived_tokens : {line : List ℕ} {t : Tree} → Reading line t → Derives disjunction (tokens_of line) t
derived_tokens r = rw (spelled_lexed r.spelled) r.derived

tokens_derived : (line : List ℕ) {t : Tree} → Derives disjunction (tokens_of line) t → Reading line t
tokens_derived line r = record { tokens = tokens_of line; spelled = lexed_spelled line (derived_valid r); derived = r }

read_is : (line : List ℕ) (t : Tree) → reading_of line ≡ readable t → Reading line t
unfolding reading_of
read_is line t e = go (readable_tokens ts) refl e
  where
    ts : List Token
    ts = tokens_of line

    go : (b : Bool) → readable_tokens ts ≡ b → pick b (readable (tree_of ts)) unreadable ≡ readable t → Reading line t
    go true q e =
        let (u, r) = (readable_iff ts).0 q in
        let same : tree_of ts ≡ t = cc in
        tokens_derived line (subst (Derives disjunction ts) (sym (tree_of_lem r) ∙ same) r)
    go false q e = let z : ◌≡◌ {A = ℕ} 0 1 = cc in absurd (omega arith)

is_read : (line : List ℕ) (t : Tree) → Reading line t → reading_of line ≡ readable t
unfolding reading_of
is_read line t reading =
    let r = derived_tokens reading in
    rw ((readable_iff (tokens_of line)).1 (t, r), tree_of_lem r)

pub readings_exactly : ReadingsExactly
readings_exactly line t = (read_is line t, is_read line t)

pub empty_unreadable : EmptyUnreadable
unfolding reading_of lex_after scan
empty_unreadable t r = let e = is_read [] t r in let z : ◌≡◌ {A = ℕ} 0 1 = cc in omega arith

pub one_reading : OneReading
one_reading line t u p q = sym (tree_of_lem (derived_tokens p)) ∙ tree_of_lem (derived_tokens q)
