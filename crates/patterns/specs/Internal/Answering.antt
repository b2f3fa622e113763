-- What is asked and promised where a readable pattern is answered. Contracts of private functions cite these; no promise of a public call
-- does.
use Rattle.std.specs.Prelude.{ℕ, ◌+◌, ◌*◌, ◌<◌, ◌≤◌, ◌≡◌, Bool, List, ◌∷◌, ◌++◌, length, take, drop, Ok, Err}
use Rattle.sheet.specs.WellFormed.{WellFormedRule}
use Rattle.sheet.specs.declared.Refusal.TheVariants.{OutputShort}
use Rattle.calculus.specs.Trees.{tree_of, encode}
use Rattle.patterns.specs.Patterns.{Pattern, pattern_bytes}
use Rattle.patterns.specs.Translation.{translation}
use Rattle.patterns.specs.Translating.{Translated, answer_tree, leaves}
use Rattle.patterns.specs.declared.TranslateError.TheVariants.{Refused}

-- so many nodes, in made from byte 1 on, are at the front of the output as a rule body, where there is room
pub record BodyWritten (made : List ℕ) (nodes : ℕ) (out : List ℕ) (x : Translated) (out' : List ℕ) : Type 0 where
  pub wrote : 1 + 3 * nodes ≤ length out
      → (x ≡ Ok (1 + 3 * nodes)) × (out' ≡ (nodes ∷ drop 1 (take (1 + 3 * nodes) made)) ++ drop (1 + 3 * nodes) out)
  pub short : length out < 1 + 3 * nodes → (x ≡ Err (Refused OutputShort)) × (out' ≡ out)

-- r is the rule of an accepted sheet, and p are the bytes of a pattern
pub record Readable (r p : List ℕ) : Type 0 where
  pub entries : ℕ
  pub kept : WellFormedRule entries r
  pub few_entries : entries ≤ 32
  pub every : Bool
  pub pattern : Pattern
  pub bytes : p ≡ pattern_bytes every pattern

-- the answer, and the output left, of the pattern that p are the bytes of
pub record BodyAnswered (r p out : List ℕ) (x : Translated) (out' : List ℕ) : Type 0 where
  pub answer : (every : Bool) (R : Pattern) → p ≡ pattern_bytes every R → x ≡ answer_tree (translation every R (tree_of r)) (length out)
  pub left : (every : Bool) (R : Pattern) → p ≡ pattern_bytes every R → out' ≡ leaves (encode (translation every R (tree_of r))) out x
