-- Of trees: "On every plan, loops included, the translated rule must hold by Table 1 at exactly the states where the sentence about runs
-- does."
use Prim.Native.Nat.{ℕ, ◌<◌}
use mathlib.Core.Path.{◌≡◌, refl}
use mathlib.Core.Bool.{Bool, false}
use mathlib.Core.List.{List}
use mathlib.Core.Logic.{◌↔◌}
use native.Mathlib.Omega.{arith}
use Rattle.sheet.specs.TransitionSystem.{Plan, TransitionsInRange}
use Rattle.calculus.specs.Meaning.{Holds}
use Rattle.calculus.specs.Verdict.{empty_context}
use Rattle.calculus.specs.Trees.{Tree, formula_of}
use Rattle.calculus.proofs.Table1.Monotone.{free}
use Rattle.patterns.specs.Patterns.{Pattern}
use Rattle.patterns.specs.Runs.{Sentence}
use Rattle.patterns.specs.Translation.{raised, translation}
use Rattle.patterns.proofs.Meaning.Before.{FollowMeans, before_follows}
use Rattle.patterns.proofs.Meaning.Raised.{raised_means}

pub translation_means :
    {P : Plan} → TransitionsInRange P → (a : List ℕ) (every : Bool) (R : Pattern) (t : Tree)
    → ((X : ℕ) → free X (formula_of a t) ≡ false) → (s : ℕ) → s < P.states
    → Holds P (formula_of a (translation every R t)) empty_context s ↔ Sentence every P a R (Holds P (formula_of a t) empty_context) s
unfolding translation
translation_means {P} w a every R t closed s l = (before_follows w a every R rule).means 0 (omega arith) empty_context (λ X i. refl) s l
  where
    rule : FollowMeans P a 0 empty_context (λ n. raised n t) (Holds P (formula_of a t) empty_context)
    rule = record { means = λ n b σ g. raised_means w a n t closed empty_context σ }
