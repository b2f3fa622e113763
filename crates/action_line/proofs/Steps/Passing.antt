-- The loop of the pass over a line: what it has found out and what it has made.
use Prim.Native.Nat.{ℕ, suc, ◌+◌, ◌≤◌}
use mathlib.Core.Path.{◌≡◌, refl, ap, ◌∙◌}
use mathlib.Core.Bool.{Bool, true, ◌&&◌, ◌||◌, false≢true}
use mathlib.Core.List.{List, [], ◌∷◌, ◌++◌}
use native.Mathlib.Omega.{arith}
use lib.Dec.{eqb}
use lib.ListN.{length, length-append}
use Rattle.text.specs.Numerals.{is_digit}
use Rattle.action_line.specs.Tokens.{Token, open_parenthesis, close_parenthesis, invalid, is_letter}
use Rattle.action_line.specs.Lexing.{ByteClass, class_of, word_before, lex_byte, lex_after, tokens_of}
use Rattle.action_line.specs.Precedence.{ended, step}
use Rattle.action_line.specs.Reading.{Expected, operand, failed, expected_after}
use Rattle.action_line.specs.Entries.{word_count}
use Rattle.action_line.specs.Internal.Lexemes.{all_capped, tokens_held}
use Rattle.action_line.specs.Internal.Checking.{known, outcome_of}
use Rattle.action_line.specs.Internal.Building.{entries_in_place, state_of, IsNew}
use Rattle.action_line.specs.Internal.Passing.{PassedOver}
use Rattle.action_line.specs.Parsing.{Parsed}
use Rattle.action_line.specs.declared.ParseError.TheVariants.{Unreadable}
use Rattle.action_line.specs.declared.builder.BodyBuilder.{BodyBuilder}
use Rattle.std.proofs.Common.{Err}
use Rattle.action_line.proofs.Reading.Words.{picked}
use Rattle.action_line.proofs.Steps.Survey.{Surveyed, survey_starts, over_token, all_counted, survey_ends, survey_fails}
use Rattle.action_line.proofs.Steps.Building.{Continues, build_starts, build_over_token, build_ends}

-- ---- a line has no more tokens than bytes

word_tokens : (w : List ℕ) (ts : List Token) → length (word_before w ts) ≤ length w + length ts
word_tokens [] ts = omega arith
word_tokens (b ∷ w) ts = omega arith

tokens_after : (w line : List ℕ) → length (lex_after w line) ≤ length w + length line
unfolding lex_after
tokens_after w [] = word_tokens w []
tokens_after w (b ∷ line) = by (λ v. lex_after v line) (λ v. tokens_after v line)
  where
    by : (go : List ℕ → List Token) → ((v : List ℕ) → length (go v) ≤ length v + length line)
        → length (lex_byte go w b (class_of b)) ≤ length w + length (b ∷ line)
    by go h =
        picked P (is_digit b || is_letter b) (λ q. omega (arith, h (w ++ b ∷ []), length-append w (b ∷ [])))
        (picked P (eqb b 32) (λ q. omega (arith, h [], word_tokens w (go [])))
        (picked P (eqb b 40) (λ q. omega (arith, h [], word_tokens w (open_parenthesis ∷ go [])))
        (picked P (eqb b 41) (λ q. omega (arith, h [], word_tokens w (close_parenthesis ∷ go []))) (omega (arith, h [], word_tokens w (invalid ∷ go []))))))
      where
        P : ByteClass → Type 0
        P x = length (lex_byte go w b x) ≤ length w + length (b ∷ line)

capped_length : (ts : List Token) → length (all_capped ts) ≡ length ts
unfolding all_capped
capped_length [] = refl
capped_length (t ∷ ts) = ap suc (capped_length ts)

pub no_more_tokens : (line : List ℕ) → length (tokens_held line) ≤ length line
no_more_tokens line = omega (arith, capped_length (tokens_of line), tokens_after [] line)

-- ---- the loop

module _ (A : ℕ) (line made₀ : List ℕ) where
  pub record Passes (e : Expected) (k : Bool) (n : ℕ) (b : BodyBuilder) (ts : List Token) : Type 0 where
    pub surveyed : Surveyed A (tokens_held line) e k n ts
    pub continues : n ≤ 32 → Continues (tokens_held line) made₀ b n ts

  pub pass_over_token : {e e' : Expected} {k k' : Bool} {n n' : ℕ} {b b' : BodyBuilder} {t : Token} {ts us : List Token} → Passes e k n b us → us ≡ t ∷ ts
      → e' ≡ expected_after e t → k' ≡ (k && known A t) → n' ≡ n + word_count t
      → (n' ≤ 32 → state_of b' ≡ step entries_in_place t (state_of b)) → Passes e' k' n' b' ts
  pass_over_token s y q h m w =
      record {
        surveyed = over_token A (tokens_held line) s.surveyed y q h m;
        continues = λ few. build_over_token (tokens_held line) made₀ (s.continues (omega (arith, m))) y m (w few);
      }

  pub pass_ends : {e : Expected} {k : Bool} {n : ℕ} {b : BodyBuilder} (b' : BodyBuilder) → Passes e k n b [] → (n ≤ 32 → state_of b' ≡ ended entries_in_place (state_of b))
      → (r : Parsed) → r ≡ outcome_of e k n → PassedOver A line made₀ r b'.made
  pass_ends b' s w r q =
      record {
        found = q ∙ survey_ends A (tokens_held line) s.surveyed;
        built =
            λ readable few.
            let m = all_counted A (tokens_held line) s.surveyed in
            build_ends (tokens_held line) made₀ b' (s.continues (omega (arith, m))) (w (omega (arith, m)));
      }

  pub pass_fails : {k : Bool} {n : ℕ} {ts : List Token} → Surveyed A (tokens_held line) failed k n ts → (made' : List ℕ)
      → PassedOver A line made₀ (Err Unreadable) made'
  pass_fails s made' =
      let q = survey_fails A (tokens_held line) s in
      record { found = rw q refl; built = λ readable few. absurd (false≢true (rw q at readable)) }

pub pass_starts : (A : ℕ) (line : List ℕ) (b : BodyBuilder) → IsNew b → Passes A line b.made (operand 0) true 0 b (tokens_held line)
pass_starts A line b h =
    record { surveyed = survey_starts A (tokens_held line); continues = λ few. build_starts (tokens_held line) b h }
