-- Tokens say a tree exactly where one pass over them accepts them.
use Prim.Native.Nat.{ℕ, zero, suc}
use mathlib.Core.Path.{◌≡◌, refl, ap, ◌∙◌}
use mathlib.Core.Bool.{true, false≢true}
use mathlib.Core.List.{List, [], ◌∷◌, ◌++◌, append_assoc, append-nil}
use mathlib.Core.Logic.{◌↔◌}
use Rattle.action_line.specs.Tokens.{Token, number, true_word, false_word, not_word, and_word, or_word, open_parenthesis, close_parenthesis}
use Rattle.action_line.specs.Tokens.{invalid}
use Rattle.action_line.specs.Grammar.{Tree, or_tree, Layer, factor, conjunction, disjunction, Derives}
use Rattle.action_line.specs.Grammar.{
  of_number,
  of_true,
  of_false,
  of_not,
  of_parentheses,
  of_factor,
  of_and,
  of_conjunction,
  of_or,
}
use Rattle.action_line.specs.Reading.{Expected, operand, operator, failed, expected_after, scan, complete, readable_tokens}

-- ---- from a tree: tokens that say one are passed where an operand is expected

passed : {l : Layer} {ts : List Token} {t : Tree} → Derives l ts t → (rest : List Token) (d : ℕ)
    → scan (ts ++ rest) (operand d) ≡ scan rest (operator d)
unfolding scan
passed (of_number n) rest d = refl
passed of_true rest d = refl
passed of_false rest d = refl
passed (of_not r) rest d = passed r rest d
passed (of_parentheses {ts = ts} r) rest d =
    rw (append_assoc ts (close_parenthesis ∷ []) rest) (passed r (close_parenthesis ∷ rest) (suc d))
passed (of_factor r) rest d = passed r rest d
passed (of_and {ts = ts} {us = us} p q) rest d =
    rw (append_assoc ts (and_word ∷ us) rest) (passed p (and_word ∷ (us ++ rest)) d ∙ passed q rest d)
passed (of_conjunction r) rest d = passed r rest d
passed (of_or {ts = ts} {us = us} p q) rest d =
    rw (append_assoc ts (or_word ∷ us) rest) (passed p (or_word ∷ (us ++ rest)) d ∙ passed q rest d)

-- ---- to a tree: what the tokens passed so far are

-- a disjunction whose last conjunction can go on
data Extensible : List Token → Type 0 where
  one : {us : List Token} {t : Tree} → Derives conjunction us t → Extensible us
  more : {ts us : List Token} {t u : Tree} → Derives disjunction ts t → Derives conjunction us u → Extensible (ts ++ or_word ∷ us)

disjunction_of : {ts : List Token} → Extensible ts → (t : Tree) × Derives disjunction ts t
disjunction_of (one {t = t} p) = (t, of_conjunction p)
disjunction_of (more {t = t} {u = u} p q) = (or_tree t u, of_or p q)

extended : {ts us : List Token} {u : Tree} → Extensible ts → Derives factor us u → Extensible (ts ++ and_word ∷ us)
extended (one p) r = one (of_and p r)
extended {us = vs} (more {ts = ts} {us = us} p q) r = rw (append_assoc ts (or_word ∷ us) (and_word ∷ vs)) (more p (of_and q r))

-- what a factor completes
record AwaitsFactor (ts : List Token) : Type 0 where
  with_factor : {us : List Token} {u : Tree} → Derives factor us u → Extensible (ts ++ us)

awaits_first : AwaitsFactor []
awaits_first = record { with_factor = λ r. one (of_factor r) }

awaits_negated : (ts : List Token) → AwaitsFactor ts → AwaitsFactor (ts ++ not_word ∷ [])
awaits_negated ts a = record { with_factor = λ {us} r. rw (append_assoc ts (not_word ∷ []) us) (a.with_factor (of_not r)) }

awaits_and : (ts : List Token) → Extensible ts → AwaitsFactor (ts ++ and_word ∷ [])
awaits_and ts e = record { with_factor = λ {us} r. rw (append_assoc ts (and_word ∷ []) us) (extended e r) }

awaits_or : (ts : List Token) → Extensible ts → AwaitsFactor (ts ++ or_word ∷ [])
awaits_or ts e =
    record { with_factor = λ {us} r. rw (append_assoc ts (or_word ∷ []) us) (more (disjunction_of e).1 (of_factor r)) }

-- d parentheses are open, each behind what awaits a factor
data Opened : ℕ → List Token → Type 0 where
  none : Opened 0 []
  next : {d : ℕ} {ts us : List Token} → Opened d ts → AwaitsFactor us → Opened (suc d) (ts ++ (us ++ open_parenthesis ∷ []))

-- and behind the last of them is what P says
data Inside (P : List Token → Type 0) (d : ℕ) : List Token → Type 0 where
  inside : {ts us : List Token} → Opened d ts → P us → Inside P d (ts ++ us)

-- one token more that no parenthesis is
goes_on_lem : {P Q : List Token → Type 0} {d : ℕ} (x : Token) → ((us : List Token) → P us → Q (us ++ x ∷ []))
    → {ts : List Token} → Inside P d ts → Inside Q d (ts ++ x ∷ [])
goes_on_lem x f (inside {ts = ts} {us = us} o p) = rw (append_assoc ts us (x ∷ [])) (inside o (f us p))

opens : {d : ℕ} {ts : List Token} → Inside AwaitsFactor d ts → Inside AwaitsFactor (suc d) (ts ++ open_parenthesis ∷ [])
opens {d} (inside {ts = ts} {us = us} o a) =
    rw (append_assoc ts us (open_parenthesis ∷ []), ← append-nil (ts ++ (us ++ open_parenthesis ∷ []))) (inside (next o a) awaits_first)

closes : {d : ℕ} {ts : List Token} → Inside Extensible (suc d) ts → Inside Extensible d (ts ++ close_parenthesis ∷ [])
closes (inside {us = us} (next {ts = ts} {us = vs} o a) e) =
    simp append_assoc (inside o (a.with_factor (of_parentheses (disjunction_of e).1)))

abbrev Reached : Expected → List Token → Type 0
Reached (operand d) ts = Inside AwaitsFactor d ts
Reached (operator d) ts = Inside Extensible d ts
Reached failed ts = Unit {0}

reached_after : (ts : List Token) (e : Expected) (x : Token) → Reached e ts → Reached (expected_after e x) (ts ++ x ∷ [])
reached_after ts (operand d) (number n) r = goes_on_lem (number n) (λ us a. a.with_factor (of_number n)) r
reached_after ts (operand d) true_word r = goes_on_lem true_word (λ us a. a.with_factor of_true) r
reached_after ts (operand d) false_word r = goes_on_lem false_word (λ us a. a.with_factor of_false) r
reached_after ts (operand d) not_word r = goes_on_lem not_word awaits_negated r
reached_after ts (operand d) and_word r = tt
reached_after ts (operand d) or_word r = tt
reached_after ts (operand d) open_parenthesis r = opens r
reached_after ts (operand d) close_parenthesis r = tt
reached_after ts (operand d) invalid r = tt
reached_after ts (operator d) (number n) r = tt
reached_after ts (operator d) true_word r = tt
reached_after ts (operator d) false_word r = tt
reached_after ts (operator d) not_word r = tt
reached_after ts (operator d) and_word r = goes_on_lem and_word awaits_and r
reached_after ts (operator d) or_word r = goes_on_lem or_word awaits_or r
reached_after ts (operator d) open_parenthesis r = tt
reached_after ts (operator zero) close_parenthesis r = tt
reached_after ts (operator (suc d)) close_parenthesis r = closes r
reached_after ts (operator d) invalid r = tt
reached_after ts failed x r = tt

reached : (ts us : List Token) (e : Expected) → Reached e ts → Reached (scan us e) (ts ++ us)
unfolding scan
reached ts [] e r = rw (append-nil ts) r
reached ts (x ∷ us) e r = rw (append_assoc ts (x ∷ []) us) at (reached (ts ++ x ∷ []) us (expected_after e x) (reached_after ts e x r))

ends_readable : (e : Expected) {ts : List Token} → complete e ≡ true → Reached e ts → (t : Tree) × Derives disjunction ts t
ends_readable (operand d) q r = absurd (false≢true q)
ends_readable (operator zero) q (inside none e) = disjunction_of e
ends_readable (operator (suc d)) q r = absurd (false≢true q)
ends_readable failed q r = absurd (false≢true q)

pub readable_iff : (ts : List Token) → (readable_tokens ts ≡ true) ↔ ((t : Tree) × Derives disjunction ts t)
unfolding scan
readable_iff ts = (
  λ q. ends_readable (scan ts (operand 0)) q (reached [] ts (operand 0) (inside none awaits_first)),
  λ r. ap complete (rw (append-nil ts) at (passed r.1 [] 0)),
)
