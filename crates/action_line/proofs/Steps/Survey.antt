-- What the pass over a line finds out: so far, and from the tokens to come, it gives what all tokens of the line give.
use Prim.Native.Nat.{ℕ, zero, suc, ◌+◌, ◌≤◌}
use mathlib.Core.Path.{◌≡◌, refl, sym, ap, ap₂, ◌∙◌}
use mathlib.Core.Bool.{Bool, true, ◌&&◌, and-true, and_assoc}
use mathlib.Core.List.{List, [], ◌∷◌}
use native.Mathlib.Omega.{arith}
use lib.ListN.{length}
use Rattle.action_line.specs.Tokens.{Token, number, true_word, false_word, not_word, and_word, or_word, open_parenthesis, close_parenthesis}
use Rattle.action_line.specs.Tokens.{invalid}
use Rattle.action_line.specs.Reading.{Expected, operand, operator, failed, expected_after, scan}
use Rattle.action_line.specs.Entries.{word_count, word_total}
use Rattle.action_line.specs.Internal.Checking.{depth_of, known, all_known, outcome_of, outline_of}

-- by all tokens, with ts still to come
pub record Surveyed (A : ℕ) (all : List Token) (e : Expected) (b : Bool) (n : ℕ) (ts : List Token) : Type 0 where
  pub scanned : scan ts e ≡ scan all (operand 0)
  pub looked : (b && all_known A ts) ≡ all_known A all
  pub counted : n + word_total ts ≡ word_total all
  -- no more parentheses and entries than tokens
  pub shallow : depth_of e + length ts ≤ length all
  pub few : n + length ts ≤ length all

failed_stays : (ts : List Token) → scan ts failed ≡ failed
unfolding scan
failed_stays [] = refl
failed_stays (t ∷ ts) = failed_stays ts

pub one_at_most : (t : Token) → word_count t ≤ 1
one_at_most (number n) = omega arith
one_at_most true_word = omega arith
one_at_most false_word = omega arith
one_at_most not_word = omega arith
one_at_most and_word = omega arith
one_at_most or_word = omega arith
one_at_most open_parenthesis = omega arith
one_at_most close_parenthesis = omega arith
one_at_most invalid = omega arith

one_deeper : (e : Expected) (t : Token) → depth_of (expected_after e t) ≤ suc (depth_of e)
one_deeper (operand d) (number n) = omega arith
one_deeper (operand d) true_word = omega arith
one_deeper (operand d) false_word = omega arith
one_deeper (operand d) not_word = omega arith
one_deeper (operand d) and_word = omega arith
one_deeper (operand d) or_word = omega arith
one_deeper (operand d) open_parenthesis = omega arith
one_deeper (operand d) close_parenthesis = omega arith
one_deeper (operand d) invalid = omega arith
one_deeper (operator d) (number n) = omega arith
one_deeper (operator d) true_word = omega arith
one_deeper (operator d) false_word = omega arith
one_deeper (operator d) not_word = omega arith
one_deeper (operator d) and_word = omega arith
one_deeper (operator d) or_word = omega arith
one_deeper (operator d) open_parenthesis = omega arith
one_deeper (operator zero) close_parenthesis = omega arith
one_deeper (operator (suc d)) close_parenthesis = omega arith
one_deeper (operator d) invalid = omega arith
one_deeper failed t = omega arith

module _ (A : ℕ) (all : List Token) where
  pub survey_starts : Surveyed A all (operand 0) true 0 all
  survey_starts = record { scanned = refl; looked = refl; counted = omega arith; shallow = omega arith; few = omega arith }

  pub over_token : {e : Expected} {b : Bool} {n : ℕ} {t : Token} {ts us : List Token} → Surveyed A all e b n us → us ≡ t ∷ ts
      → {e' : Expected} {b' : Bool} {n' : ℕ} → e' ≡ expected_after e t → b' ≡ (b && known A t) → n' ≡ n + word_count t
      → Surveyed A all e' b' n' ts
  unfolding scan all_known word_total
  over_token {e} {b} {n} {t} {ts} {us} s y p q m =
      let l : length us ≡ suc (length ts) = ap length y in
      record {
        scanned = ap (scan ts) p ∙ ap (λ (vs : List Token). scan vs e) (sym y) ∙ s.scanned;
        looked =
            ap (λ (k : Bool). k && all_known A ts) q ∙ and_assoc b (known A t) (all_known A ts)
            ∙ ap (λ (vs : List Token). b && all_known A vs) (sym y) ∙ s.looked;
        counted = omega (arith, m, ap word_total y, s.counted);
        shallow = rw p (omega (arith, one_deeper e t, s.shallow));
        few = omega (arith, m, one_at_most t, s.few);
      }

  module _ {e : Expected} {b : Bool} {n : ℕ} (s : Surveyed A all e b n []) where
    pub all_counted : n ≡ word_total all
    unfolding word_total
    all_counted = omega (arith, s.counted)

    pub survey_ends : outcome_of e b n ≡ outline_of A all
    unfolding scan all_known
    survey_ends =
        ap₂ (λ (x : Expected) (k : Bool). outcome_of x k n) s.scanned (sym (and-true b) ∙ s.looked)
        ∙ ap (outcome_of (scan all (operand 0)) (all_known A all)) all_counted

  pub survey_fails : {b : Bool} {n : ℕ} {ts : List Token} → Surveyed A all failed b n ts → scan all (operand 0) ≡ failed
  survey_fails {ts = ts} s = sym s.scanned ∙ failed_stays ts
