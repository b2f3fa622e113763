-- Sentences about runs: what a sentence says of a pattern, by what it says of the pattern's parts.
use Prim.Native.Nat.{ℕ, ◌<◌}
use mathlib.Core.Path.{◌≡◌, refl, sym, subst}
use mathlib.Core.Bool.{Bool, true, false}
use mathlib.Core.List.{List}
use mathlib.Core.Logic.{◌↔◌, ◌⊎◌, inl, inr, ⊎_elim, ⊎_map}
use Rattle.sheet.specs.TransitionSystem.{Plan, TransitionsInRange}
use Rattle.calculus.specs.Formulas.{ActionFormula}
use Rattle.calculus.specs.Decode.{action_formula}
use Rattle.calculus.proofs.Table1.Modal.{Somewhere, Everywhere}
use Rattle.patterns.specs.Patterns.{Pattern, action, sequence, choice, repetition}
use Rattle.patterns.specs.Runs.{Run, step, then, first, second, none, more, SomeRun, EveryRun, Sentence}

-- "or" for some run, "and" for every run
abbrev pub Joined : Bool → Type 0 → Type 0 → Type 0
Joined false A B = A ⊎ B
Joined true A B = A × B

-- some transition from s by an action in α leads into Q, or every one does
abbrev pub Onward : Bool → Plan → ActionFormula → ℕ → (ℕ → Type 0) → Type 0
Onward false P α s Q = Somewhere P α s Q
Onward true P α s Q = Everywhere P α s Q

module _ {P : Plan} (w : TransitionsInRange P) (a : List ℕ) where
  run_below : {R : Pattern} {s u : ℕ} → Run P a R s u → s < P.states → u < P.states
  run_below (step t m o k e) l = subst (λ (x : ℕ). x < P.states) e (w.target_below t m)
  run_below (then p q) l = run_below q (run_below p l)
  run_below (first p) l = run_below p l
  run_below (second p) l = run_below p l
  run_below none l = l
  run_below (more p q) l = run_below q (run_below p l)

  -- what holds at the states where Q does may stand for Q at the ends of runs
  pub sentence_map : (every : Bool) (R : Pattern) {Q Q' : ℕ → Type 0} → ((u : ℕ) → u < P.states → Q u → Q' u)
      → (s : ℕ) → s < P.states → Sentence every P a R Q s → Sentence every P a R Q' s
  unfolding Sentence
  sentence_map false R h s l r = record { end = r.end; run = r.run; ends = h r.end (run_below r.run l) r.ends }
  sentence_map true R h s l r = record { ends = λ u p. h u (run_below p l) (r.ends u p) }

  -- If a set holds the states of Q, and those from which some run of R leads into it, each repetition of R that ends in Q starts in it.
  pub some_within : {R : Pattern} {Q : ℕ → Type 0} (U : ℕ → Bool)
      → ((t : ℕ) → t < P.states → Q t ⊎ SomeRun P a R (λ u. U u ≡ true) t → U t ≡ true)
      → {s u : ℕ} → Run P a (repetition R) s u → s < P.states → Q u → U s ≡ true
  some_within U h none l q = h _ l (inl q)
  some_within U h (more p r) l q = h _ l (inr (record { end = _; run = p; ends = some_within U h r (run_below p l) q }))

  -- If a set holds states of Q alone, and no run of R leads out of it, each repetition of R that starts in it ends in Q.
  pub within_every : {R : Pattern} {Q : ℕ → Type 0} (U : ℕ → Bool)
      → ((t : ℕ) → t < P.states → U t ≡ true → Q t × EveryRun P a R (λ u. U u ≡ true) t)
      → {s u : ℕ} → Run P a (repetition R) s u → s < P.states → U s ≡ true → Q u
  within_every U h none l i = (h _ l i).0
  within_every U h (more p r) l i = within_every U h r (run_below p l) ((h _ l i).1.ends _ p)

module _ (P : Plan) (a : List ℕ) where
  taken : {e s u : ℕ} → Run P a (action e) s u → Somewhere P (action_formula a e) s (λ x. x ≡ u)
  taken (step t m o k e) = (t, m, o, k, e)

  pub action_sentence : (every : Bool) (e : ℕ) (Q : ℕ → Type 0) (s : ℕ)
      → Onward every P (action_formula a e) s Q ↔ Sentence every P a (action e) Q s
  unfolding Sentence
  action_sentence false e Q s = (
    λ x. record { end = x.0.target; run = step x.0 x.1 x.2 x.3 refl; ends = x.4 },
    λ r. let x = taken r.run in (x.0, x.1, x.2, x.3, subst Q (sym x.4) r.ends),
  )
  action_sentence true e Q s = (
    λ h. record { ends = λ u p. let x = taken p in subst Q x.4 (h x.0 x.1 x.2 x.3) },
    λ h t m o k. h.ends t.target (step t m o k refl),
  )

  parts : {R T : Pattern} {s u : ℕ} → Run P a (sequence R T) s u → SomeRun P a R (λ m. Run P a T m u) s
  parts (then p q) = record { end = _; run = p; ends = q }

  pub sequence_sentence : (every : Bool) (R T : Pattern) (Q : ℕ → Type 0) (s : ℕ)
      → Sentence every P a R (Sentence every P a T Q) s ↔ Sentence every P a (sequence R T) Q s
  unfolding Sentence
  sequence_sentence false R T Q s = (
    λ r. record { end = r.ends.end; run = then r.run r.ends.run; ends = r.ends.ends },
    λ r. let p = parts r.run in record { end = p.end; run = p.run; ends = record { end = r.end; run = p.ends; ends = r.ends } },
  )
  sequence_sentence true R T Q s = (
    λ h. record { ends = λ u r. let p = parts r in (h.ends p.end p.run).ends u p.ends },
    λ h. record { ends = λ m p. record { ends = λ u q. h.ends u (then p q) } },
  )

  chosen : {R T : Pattern} {s u : ℕ} → Run P a (choice R T) s u → Run P a R s u ⊎ Run P a T s u
  chosen (first p) = inl p
  chosen (second p) = inr p

  pub choice_sentence : (every : Bool) (R T : Pattern) (Q : ℕ → Type 0) (s : ℕ)
      → Joined every (Sentence every P a R Q s) (Sentence every P a T Q s) ↔ Sentence every P a (choice R T) Q s
  unfolding Sentence
  choice_sentence false R T Q s = (
    ⊎_elim
        (λ r. record { end = r.end; run = first r.run; ends = r.ends })
        (λ r. record { end = r.end; run = second r.run; ends = r.ends }),
    λ r. ⊎_map
        (λ p. record { end = r.end; run = p; ends = r.ends })
        (λ p. record { end = r.end; run = p; ends = r.ends })
        (chosen r.run),
  )
  choice_sentence true R T Q s = (
    λ h. record { ends = λ u p. ⊎_elim (h.0.ends u) (h.1.ends u) (chosen p) },
    λ h. (record { ends = λ u p. h.ends u (first p) }, record { ends = λ u p. h.ends u (second p) }),
  )

  -- a repetition is none, or once and then a repetition
  pub some_repeated : {R : Pattern} {Q : ℕ → Type 0} {s : ℕ}
      → Q s ⊎ SomeRun P a R (SomeRun P a (repetition R) Q) s → SomeRun P a (repetition R) Q s
  some_repeated (inl q) = record { end = _; run = none; ends = q }
  some_repeated (inr r) = record { end = r.ends.end; run = more r.run r.ends.run; ends = r.ends.ends }

  pub every_repeated : {R : Pattern} {Q : ℕ → Type 0} {s : ℕ}
      → EveryRun P a (repetition R) Q s → Q s × EveryRun P a R (EveryRun P a (repetition R) Q) s
  every_repeated h = (h.ends _ none, record { ends = λ m p. record { ends = λ u r. h.ends u (more p r) } })
