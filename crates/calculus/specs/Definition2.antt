-- Definition 2, of document 01's "the rule is guarded by Definition 2": the predicate g(φ, 𝒳), for a set 𝒳 of variables.
use Rattle.std.specs.Prelude.{ℕ, Bool, true, false, not, ◌&&◌, ◌||◌, eqb}
use Rattle.calculus.specs.Formulas.{Formula, false_formula, true_formula, disj, conj, some, every, var, least, greatest}

-- g(φ, 𝒳) of Definition 2, by its lines
unfoldable pub guarded_in : Formula → (ℕ → Bool) → Bool
-- F, T: true
guarded_in false_formula 𝒳 = true
guarded_in true_formula 𝒳 = true
-- or, and: both parts
guarded_in (disj φ ψ) 𝒳 = guarded_in φ 𝒳 && guarded_in ψ 𝒳
guarded_in (conj φ ψ) 𝒳 = guarded_in φ 𝒳 && guarded_in ψ 𝒳
-- ⟨α⟩ φ, [α] φ: g(φ, ∅)
guarded_in (some α φ) 𝒳 = guarded_in φ (λ Y. false)
guarded_in (every α φ) 𝒳 = guarded_in φ (λ Y. false)
-- X: X is not in 𝒳
guarded_in (var X) 𝒳 = not (𝒳 X)
-- μ X. φ, ν X. φ: g(φ, 𝒳 with X)
guarded_in (least X φ) 𝒳 = guarded_in φ (λ Y. eqb Y X || 𝒳 Y)
guarded_in (greatest X φ) 𝒳 = guarded_in φ (λ Y. eqb Y X || 𝒳 Y)

-- φ is guarded: g(φ, ∅).
unfoldable pub guarded : Formula → Bool
guarded φ = guarded_in φ (λ Y. false)
