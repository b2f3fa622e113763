-- The call answers what its definition says, by what the two passes found and made.
use Prim.Native.Nat.{ℕ, suc, ◌+◌, ◌*◌, ◌<◌, ◌≤◌}
use mathlib.Core.Path.{◌≡◌, refl, sym, ap, ap₂, subst, subst₂, ◌∙◌}
use mathlib.Core.Bool.{Bool, true, false}
use mathlib.Core.List.{List, [], ◌∷◌, ◌++◌}
use native.Mathlib.Omega.{arith}
use native.Mathlib.Decide.{dec_lt}
use lib.ListN.{length, set, take, drop}
use lib.Seq.{take_at}
use borrow.Author.Tests.{le-leb, lt-leb}
use Rattle.sheet.specs.Bytes.{pick}
use Rattle.action_line.specs.Tokens.{Token}
use Rattle.action_line.specs.Grammar.{Tree, disjunction, Derives}
use Rattle.action_line.specs.Entries.{entry_total, entries_from, body_of}
use Rattle.action_line.specs.Lexing.{tokens_of}
use Rattle.action_line.specs.Precedence.{built_from}
use Rattle.action_line.specs.Reading.{operand, readable_tokens, unreadable, readable, reading_of}
use Rattle.action_line.specs.Parsing.{Parsed, actions_below, parsed_of, output_after, reported_parse, Parses}
use Rattle.action_line.specs.Internal.Lexemes.{tokens_held}
use Rattle.action_line.specs.Internal.Checking.{all_known, outline_of}
use Rattle.action_line.specs.Internal.Building.{Made, made, entries_in_place, built_in, built_body}
use Rattle.action_line.specs.Internal.Passing.{total_of, PassedOver}
use Rattle.action_line.specs.Internal.Answering.{BodyWritten}
use Rattle.action_line.specs.declared.ParseError.{ParseError}
use Rattle.action_line.specs.declared.ParseError.TheVariants.{Unreadable, UnknownAction, TooManyEntries, OutputShort}
use Rattle.std.proofs.Common.{Ok, Err}
use Rattle.action_line.proofs.Reading.Building.{line_builds}
use Rattle.action_line.proofs.Reading.Readable.{readable_iff}
use Rattle.action_line.proofs.Reading.Readings.{tree_of_lem}
use Rattle.action_line.proofs.Body.Totals.{derived_entries, derived_known}
use Rattle.action_line.proofs.Body.Bytes.{body_length, entries_length}
use Rattle.action_line.proofs.Body.InPlace.{built_body_lem}
use Rattle.action_line.proofs.Steps.Capped.{capped_scan, capped_entries, capped_known, all_held}

-- a count set before entries, and then the tree's count in its place
headed : (t : Tree) (o : Made) (rest : List ℕ) → built_body o ≡ body_of t ++ rest
    → entry_total t ∷ drop 1 (take (1 + 3 * entry_total t) o.bytes) ≡ body_of t
unfolding body_of
headed t o rest q = by o.bytes q
  where
    by : (bytes : List ℕ) → set bytes 0 o.count ≡ body_of t ++ rest → entry_total t ∷ drop 1 (take (1 + 3 * entry_total t) bytes) ≡ body_of t
    by [] e = absurd (omega (arith, ap (length {A = ℕ}) e))
    by (b ∷ bytes) e =
        let s : 1 + 3 * entry_total t ≡ suc (3 * entry_total t) = omega arith in
        rw s
        (ap (λ (es : List ℕ). entry_total t ∷ es)
        (ap (take (3 * entry_total t)) (ap (drop 1) e) ∙ take_at (entries_from 0 t) rest (3 * entry_total t) (entries_length 0 t)))

-- ---- what the pass found out

module _ (A : ℕ) (line : List ℕ) where
  -- the line is read as the tree, by the grammar too
  abbrev ReadAs : Tree → Type 0
  ReadAs t = (reading_of line ≡ readable t) × Derives disjunction (tokens_of line) t

  abbrev pub Found : Parsed → Type 0
  Found (Err Unreadable) = reading_of line ≡ unreadable
  Found (Err UnknownAction) = (t : Tree) × ReadAs t × (actions_below A t ≡ false)
  -- no pass answers so
  Found (Err TooManyEntries) = ⊥
  Found (Err OutputShort) = ⊥
  Found (Ok n) = (t : Tree) × ReadAs t × (actions_below A t ≡ true) × (n ≡ total_of line)

  read : readable_tokens (tokens_of line) ≡ true → (t : Tree) × ReadAs t
  unfolding reading_of
  read q = let d = (readable_iff (tokens_of line)).0 q in (d.0, (rw q (ap readable (tree_of_lem d.1)), d.1))

  pub found_out : A ≤ 255 → Found (outline_of A (tokens_held line))
  unfolding reading_of
  found_out b =
      rw (capped_scan (tokens_of line) (operand 0), capped_known A b (tokens_of line))
      (by_tests (readable_tokens (tokens_of line)) (all_known A (tokens_of line)) refl refl)
    where
      by_tests : (r k : Bool) → readable_tokens (tokens_of line) ≡ r → all_known A (tokens_of line) ≡ k
          → Found (pick r (pick k (Ok (total_of line)) (Err UnknownAction)) (Err Unreadable))
      by_tests false k q h = rw q refl
      by_tests true true q h = let z = read q in (z.0, z.1, sym (derived_known A z.1.1) ∙ h, refl)
      by_tests true false q h = let z = read q in (z.0, z.1, sym (derived_known A z.1.1) ∙ h)

  -- ---- what the call answers

  pub parses : (out : List ℕ) {r : Parsed} {out' : List ℕ} → r ≡ parsed_of A line (length out) → out' ≡ output_after A line out
      → Parses A line out r out'
  parses out q h = (q, (ap reported_parse q, h))

  module _ (out : List ℕ) where
    pub answers_unreadable : reading_of line ≡ unreadable → Parses A line out (Err Unreadable) out
    unfolding parsed_of output_after
    answers_unreadable q = parses out (rw q refl) (rw q refl)

    module _ {t : Tree} (q : reading_of line ≡ readable t) where
      pub answers_unknown : actions_below A t ≡ false → Parses A line out (Err UnknownAction) out
      unfolding parsed_of output_after
      answers_unknown k = parses out (rw (q, k) refl) (rw (q, k) refl)

      module _ (k : actions_below A t ≡ true) where
        pub answers_many : 32 < entry_total t → Parses A line out (Err TooManyEntries) out
        unfolding parsed_of output_after
        answers_many l = let n = lt-leb (entry_total t) 32 l in parses out (rw (q, k, n) refl) (rw (q, k, n) refl)

        module _ (few : entry_total t ≤ 32) where
          pub answers_short : length out < length (body_of t) → Parses A line out (Err OutputShort) out
          unfolding parsed_of output_after
          answers_short l =
              let n = le-leb (entry_total t) 32 few in
              let m = lt-leb (length (body_of t)) (length out) l in
              parses out (rw (q, k, n, m) refl) (rw (q, k, n, m) refl)

          pub answers_wrote : length (body_of t) ≤ length out
              → Parses A line out (Ok (length (body_of t))) (body_of t ++ drop (length (body_of t)) out)
          unfolding parsed_of output_after
          answers_wrote l =
              let n = le-leb (entry_total t) 32 few in
              let m = le-leb (length (body_of t)) (length out) l in
              parses out (rw (q, k, n, m) refl) (rw (q, k, n, m) refl)

  -- what the pass turned down
  pub answers_refused : A ≤ 255 → (out : List ℕ) {x : ParseError} → Err x ≡ outline_of A (tokens_held line) → Parses A line out (Err x) out
  answers_refused b out {x} q = by x (subst Found (sym q) (found_out b))
    where
      by : (x : ParseError) → Found (Err x) → Parses A line out (Err x) out
      by Unreadable f = answers_unreadable out f
      by UnknownAction f = answers_unknown out f.1.0 f.2
      by TooManyEntries f = absurd f
      by OutputShort f = absurd f

  -- ---- what the pass made

  module _ (b : A ≤ 255) {t : Tree} (d : Derives disjunction (tokens_of line) t) (k : actions_below A t ≡ true) where
    total_is : total_of line ≡ entry_total t
    total_is = capped_entries (tokens_of line) ∙ derived_entries d

    built_is : (made₀ : List ℕ) → 1 + 3 * entry_total t ≤ length made₀
        → built_body (built_in line made₀) ≡ body_of t ++ drop (1 + 3 * entry_total t) made₀
    built_is made₀ l =
        ap (λ (ts : List Token). built_body (built_from entries_in_place ts (made 0 made₀))) (all_held A b (tokens_of line) (derived_known A d ∙ k))
        ∙ ap built_body (line_builds entries_in_place d (made 0 made₀)) ∙ built_body_lem t made₀ l

    -- the entries that were made, behind their count
    body_made : (made₀ made' : List ℕ) → length made₀ ≡ 97 → entry_total t ≤ 32 → made' ≡ (built_in line made₀).bytes
        → total_of line ∷ drop 1 (take (1 + 3 * total_of line) made') ≡ body_of t
    body_made made₀ made' o few q =
        let n : total_of line ≡ entry_total t = total_is in
        ap₂ (λ (i : ℕ) (bytes : List ℕ). i ∷ drop 1 (take (1 + 3 * i) bytes)) n q
        ∙ headed t (built_in line made₀) (drop (1 + 3 * entry_total t) made₀) (built_is made₀ (omega arith))

    answers : reading_of line ≡ readable t → (made₀ made' out : List ℕ) (r : Parsed) (out' : List ℕ) → length made₀ ≡ 97
        → (total_of line ≤ 32 → made' ≡ (built_in line made₀).bytes) → BodyWritten made' (total_of line) out r out' → Parses A line out r out'
    answers q made₀ made' out r out' o built w =
        elim (dec_lt 32 (entry_total t)) [
          | yes many ↦
              let z = w.many (omega (arith, total_is)) in
              subst₂ (Parses A line out) (sym z.0) (sym z.1) (answers_many out q k many)
          | no few ↦ elim (dec_lt (length out) (length (body_of t))) [
            | yes short ↦
                let z = w.short (omega (arith, total_is)) (omega (arith, total_is, body_length t)) in
                subst₂ (Parses A line out) (sym z.0) (sym z.1) (answers_short out q k (omega arith) short)
            | no room ↦
                let z = w.wrote (omega (arith, total_is)) (omega (arith, total_is, body_length t)) in
                let n : 1 + 3 * total_of line ≡ length (body_of t) = omega (arith, total_is, body_length t) in
                let body = body_made made₀ made' o (omega arith) (built (omega (arith, total_is))) in
                subst₂ (Parses A line out) (sym (z.0 ∙ ap Ok n))
                (sym (z.1 ∙ ap₂ (λ (bytes : List ℕ) (i : ℕ). bytes ++ drop i out) body n))
                (answers_wrote out q k (omega arith) (omega arith))
          ]
        ]

    -- what the pass has made is written
    pub written_answers : reading_of line ≡ readable t → (made₀ made' out : List ℕ) (n : ℕ) (r : Parsed) (out' : List ℕ)
        → length made₀ ≡ 97 → PassedOver A line made₀ (Ok n) made' → n ≡ total_of line → BodyWritten made' n out r out' → Parses A line out r out'
    written_answers q made₀ made' out n r out' o passed e w = answers q made₀ made' out r out' o made_is (rw e at w)
      where
        made_is : total_of line ≤ 32 → made' ≡ (built_in line made₀).bytes
        made_is = passed.built (rw (capped_scan (tokens_of line) (operand 0)) ((readable_iff (tokens_of line)).1 (t, d)))
