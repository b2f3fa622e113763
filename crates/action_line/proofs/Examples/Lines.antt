-- Worked examples: document 02 (e)'s own line, a longer one, a number in parentheses, and `not` again and again.
use Prim.Native.Nat.{ℕ, zero, suc, ◌+◌, ◌≤◌}
use mathlib.Core.Path.{◌≡◌, refl, ap, subst, ◌∙◌}
use mathlib.Core.List.{List, [], ◌∷◌, ◌++◌, append_assoc}
use native.Mathlib.Numerals.{add-one}
use native.Mathlib.Omega.{arith}
use lib.ListN.{replicate, replicate-append-replicate}
use Rattle.text.specs.Comparing.{same_text}
use Rattle.text.specs.Numerals.{one_digit, all_digits, decimal_from}
use Rattle.action_line.specs.Tokens as Tokens
use Rattle.action_line.specs.Tokens.{Token, number, not_word, open_parenthesis, close_parenthesis, not_text, Apart}
use Rattle.action_line.specs.Tokens.{Spells, ends, space, opens, closes, word}
use Rattle.action_line.specs.Grammar.{Tree, true_tree, action_tree, or_tree, and_tree, not_tree}
use Rattle.action_line.specs.Grammar.{factor, Derives, of_number, of_not, of_parentheses, of_factor, of_conjunction, Mentions, Reading}
use Rattle.action_line.specs.Entries.{entry_total, entries_from, body_of}
use Rattle.action_line.specs.ParseCorrect.{KnownActions, RefusedWith, AcceptedWith}
use Rattle.action_line.specs.Lexing.{token_of, lex_after}
use Rattle.action_line.specs.Precedence.{reduce, run}
use Rattle.action_line.specs.Reading.{scan, readable, reading_of}

-- `not 3 and 4 or 5`
own_line :
    reading_of (110 ∷ 111 ∷ 116 ∷ 32 ∷ 51 ∷ 32 ∷ 97 ∷ 110 ∷ 100 ∷ 32 ∷ 52 ∷ 32 ∷ 111 ∷ 114 ∷ 32 ∷ 53 ∷ [])
    ≡ readable (or_tree (and_tree (not_tree (action_tree 3)) (action_tree 4)) (action_tree 5))
unfolding reading_of scan run reduce lex_after token_of all_digits decimal_from same_text
own_line = refl

-- `1 or 2 and 3 and not (4 or 5) or true`
longer_line :
    reading_of (49 ∷ 32 ∷ 111 ∷ 114 ∷ 32 ∷ 50 ∷ 32 ∷ 97 ∷ 110 ∷ 100 ∷ 32 ∷ 51 ∷ 32 ∷ 97 ∷ 110 ∷ 100 ∷ 32 ∷ 110 ∷ 111 ∷ 116 ∷ 32
    ∷ 40 ∷ 52 ∷ 32 ∷ 111 ∷ 114 ∷ 32 ∷ 53 ∷ 41 ∷ 32 ∷ 111 ∷ 114 ∷ 32 ∷ 116 ∷ 114 ∷ 117 ∷ 101 ∷ [])
    ≡ readable
    (or_tree
    (or_tree (action_tree 1) (and_tree (and_tree (action_tree 2) (action_tree 3)) (not_tree (or_tree (action_tree 4) (action_tree 5)))))
    true_tree)
unfolding reading_of scan run reduce lex_after token_of all_digits decimal_from same_text
longer_line = refl

-- ---- n opening parentheses, `7`, n closing ones: a million parentheses around one number are read as that number

abbrev seven_inside : ℕ → List ℕ
seven_inside n = replicate n 40 ++ (55 ∷ replicate n 41)

abbrev seven_tokens : ℕ → List Token
seven_tokens n = replicate n open_parenthesis ++ (number 7 ∷ replicate n close_parenthesis)

closed_spelled : (n : ℕ) → Spells (replicate n 41) (replicate n close_parenthesis)
closed_spelled zero = ends
closed_spelled (suc n) = closes (closed_spelled n)

closed_apart : (n : ℕ) → Apart (replicate n 41)
closed_apart zero = tt
closed_apart (suc n) = refl

opened_spelled : (n : ℕ) {line : List ℕ} {ts : List Token} → Spells line ts
    → Spells (replicate n 40 ++ line) (replicate n open_parenthesis ++ ts)
opened_spelled zero r = r
opened_spelled (suc n) r = opens (opened_spelled n r)

closed_more : (n : ℕ) → replicate n close_parenthesis ++ close_parenthesis ∷ [] ≡ replicate (suc n) close_parenthesis
closed_more n =
    replicate-append-replicate n 1 close_parenthesis ∙ ap (λ (k : ℕ). replicate k close_parenthesis) (add-one n)

seven_derived : (n : ℕ) → Derives factor (seven_tokens n) (action_tree 7)
seven_derived zero = of_number 7
seven_derived (suc n) =
    subst (λ (ts : List Token). Derives factor (open_parenthesis ∷ ts) (action_tree 7))
    (append_assoc (replicate n open_parenthesis) (number 7 ∷ replicate n close_parenthesis) (close_parenthesis ∷ [])
    ∙ ap (λ (ts : List Token). replicate n open_parenthesis ++ (number 7 ∷ ts)) (closed_more n))
    (of_parentheses (of_conjunction (of_factor (seven_derived n))))

seven_inside_lem : (n : ℕ) → Reading (seven_inside n) (action_tree 7)
seven_inside_lem n =
    record {
      tokens = seven_tokens n;
      spelled = opened_spelled n (word (Tokens.spells_number (one_digit 7 (omega arith))) (closed_apart n) (closed_spelled n));
      derived = of_conjunction (of_factor (seven_derived n));
    }

seven_accepted : (n room : ℕ) → 4 ≤ room → AcceptedWith 8 (seven_inside n) room (action_tree 7)
unfolding Mentions entry_total entries_from body_of
seven_accepted n room l =
    record {
      reading = seven_inside_lem n;
      known = record { below = λ a m. omega (arith, m) };
      few_entries = omega arith;
      room_enough = omega arith;
    }

-- ---- n times `not `, then `0`: from 32 times on, refused with 34

abbrev zero_negated : ℕ → List ℕ
zero_negated zero = 48 ∷ []
zero_negated (suc n) = not_text ++ (32 ∷ zero_negated n)

abbrev negated_tokens : ℕ → List Token
negated_tokens zero = number 0 ∷ []
negated_tokens (suc n) = not_word ∷ negated_tokens n

abbrev negated_tree : ℕ → Tree
negated_tree zero = action_tree 0
negated_tree (suc n) = not_tree (negated_tree n)

negated_spelled : (n : ℕ) → Spells (zero_negated n) (negated_tokens n)
negated_spelled zero = word (Tokens.spells_number (one_digit 0 (omega arith))) tt ends
negated_spelled (suc n) = word Tokens.spells_not refl (space (negated_spelled n))

negated_derived : (n : ℕ) → Derives factor (negated_tokens n) (negated_tree n)
negated_derived zero = of_number 0
negated_derived (suc n) = of_not (negated_derived n)

zero_negated_lem : (n : ℕ) → Reading (zero_negated n) (negated_tree n)
zero_negated_lem n =
    record { tokens = negated_tokens n; spelled = negated_spelled n; derived = of_conjunction (of_factor (negated_derived n)) }

negated_entries : (n : ℕ) → entry_total (negated_tree n) ≡ n + 1
unfolding entry_total
negated_entries zero = refl
negated_entries (suc n) = omega (arith, negated_entries n)

negated_known : (n : ℕ) → KnownActions 1 (negated_tree n)
unfolding Mentions
negated_known zero = record { below = λ a m. omega (arith, m) }
negated_known (suc n) = record { below = (negated_known n).below }

nots_refused : (n room : ℕ) → 32 ≤ n → RefusedWith 1 (zero_negated n) room 34
nots_refused n room l = RefusedWith.many_entries (negated_tree n) (zero_negated_lem n) (negated_known n) (omega (arith, negated_entries n))
