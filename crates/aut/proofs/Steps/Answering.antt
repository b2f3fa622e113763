-- From what was found of the text to what the call answers and leaves.
use Rattle.std.proofs.Common.{◌≡◌, Result, Ok, Err, ℕ, ◌+◌, ◌*◌, ◌/◌, ◌%◌, ◌<◌, ◌≤◌, min, Bool, true, false, not, eqb, leb, List, [], ◌∷◌, ◌++◌, length, drop, refl, sym, ap, ap₂, subst, ◌∙◌, inl, arith}
use mathlib.Core.List.{Memᴰ}
use native.Mathlib.Decide.{dec_lt}
use borrow.Author.Tests.{leb-true}
use Rattle.sheet.specs.Writing.{two_bytes}
use Rattle.sheet.specs.TransitionSystem.{LabelledTransition}
use Rattle.sheet.proofs.Checks.Checks.{and_parts}
use Rattle.sheet.proofs.Checks.Bools.{differ}
use Rattle.text.specs.Numerals.{decimal_value}
use Rattle.aut.specs.Texts.{FirstLine, TransitionLine}
use Rattle.aut.specs.Scanning.{failed, rest, after_first_line, text_readable, text_first_line, text_lines}
use Rattle.aut.specs.Reading.{unreadable, readable, reading_of}
use Rattle.aut.specs.Plans.{transitions_of, transition_bytes, body_of}
use Rattle.aut.specs.Converting.{Converted, first_line_right, states_in_range, within_limits, Converts}
use Rattle.aut.specs.Internal.Pieces.{InHeading}
use Rattle.aut.specs.Internal.Keys.{transition_held, transitions_held, key_bytes}
use Rattle.aut.specs.Internal.Passing.{Within, within, GatheredOf, Passed}
use Rattle.aut.specs.Internal.Passing as passing
use Rattle.aut.specs.Internal.Answering.{checked_by, checked_of, held_body, BodyWritten}
use Rattle.aut.specs.declared.lines.Heading.{Heading}
use Rattle.aut.specs.declared.pass.Gathered.{Gathered}
use Rattle.aut.specs.declared.pass.Pass.{Pass}
use Rattle.aut.specs.declared.ConvertError.{ConvertError}
use Rattle.aut.specs.declared.ConvertError.TheVariants.{Malformed, OutputShort}
use Rattle.aut.proofs.Plans.Transitions.{transitions_merged}
use Rattle.aut.proofs.Plans.Body.{body_length}
use Rattle.aut.proofs.Statements.Answers.{state_over, answers_unreadable, answers_malformed, answers_state, answers_limits, answers_short, answers_wrote}
use Rattle.aut.proofs.Steps.Checking.{not_begun, readable_is, bounded_few, labels_counted, keys_counted, gathered_of, checked_is, states_is}
use Rattle.aut.proofs.Steps.Passing.{is_within}

all_passed : (a b c : Bool) → checked_by a b c ≡ Ok tt → (b ≡ true) × (c ≡ true)
all_passed false b c e = cc
all_passed true false c e = cc
all_passed true true false e = cc
all_passed true true true e = (refl, refl)

-- of keys whose origins are bytes
bytes_held : (ks : List ℕ) → ((t : LabelledTransition) → Memᴰ t (transitions_held ks) → t.origin < 256)
    → key_bytes ks ≡ transition_bytes (transitions_held ks)
unfolding key_bytes transitions_held transition_bytes
bytes_held [] small = refl
bytes_held (k ∷ ks) small =
    let o : k / 65536 % 256 ≡ k / 65536 = omega (arith, small (transition_held k) (Memᴰ.head refl)) in
    ap₂ (λ (a : ℕ) (l : List ℕ). a ∷ k / 256 % 256 ∷ k % 256 ∷ l) o (bytes_held ks (λ t m. small t (Memᴰ.tail m)))

module _ (s out : List ℕ) where
  abbrev h : FirstLine
  h = text_first_line s

  abbrev xs : List TransitionLine
  xs = text_lines s

  is_read : text_readable s ≡ true → reading_of s ≡ readable h xs
  unfolding reading_of
  is_read e = rw e refl

  not_read : text_readable s ≡ false → reading_of s ≡ unreadable
  unfolding reading_of
  not_read e = rw e refl

  -- the first line cannot be read
  pub heading_unread : after_first_line (rest s) ≡ failed → Converts s out (Err Malformed) out
  heading_unread e = answers_unreadable s out (not_read (not_begun s e))

  module _ (t : List ℕ) (e : after_first_line (rest s) ≡ rest t) where
    -- a line after it cannot be read
    pub lines_unread : passing.readable t ≡ false → Converts s out (Err Malformed) out
    lines_unread z = answers_unreadable s out (not_read (readable_is s t e ∙ z))

    module _ (first : Heading) (is : InHeading (rest s) first) (few : Bool) (p : Pass) (g : Gathered)
        (o : Passed t (decimal_value first.states.now) few p g) (states : ℕ) (q : states ≡ min (decimal_value first.states.now) 129)
        (f : few ≡ leb states 128) where
      read : reading_of s ≡ readable h xs
      read = is_read (readable_is s t e ∙ o.readable_is)

      checked : checked_of first states p g ≡ checked_by (first_line_right h xs) (states_in_range h xs) (within_limits h xs)
      checked = checked_is s t e first is few p g o states q f

      -- what a check says
      abbrev Says : Result (Unit {0}) ConvertError → Type 0
      Says (Ok u) = (first_line_right h xs ≡ true) × ((states_in_range h xs ≡ true) × (within_limits h xs ≡ true))
      Says (Err x) = Converts s out (Err x) out

      says : Says (checked_by (first_line_right h xs) (states_in_range h xs) (within_limits h xs))
      says = go (first_line_right h xs) refl (states_in_range h xs) refl (within_limits h xs) refl
        where
          go : (a : Bool) → first_line_right h xs ≡ a → (b : Bool) → states_in_range h xs ≡ b → (c : Bool) → within_limits h xs ≡ c
              → Says (checked_by a b c)
          go false u b v c w = answers_malformed s out read u
          go true u false v c w = answers_state s out read u v
          go true u true v false w = answers_limits s out read u v w
          go true u true v true w = (u, (v, w))

      pub refused : {x : ConvertError} → checked_of first states p g ≡ Err x → Converts s out (Err x) out
      refused k = subst Says (sym checked ∙ k) says

      -- ---- a text that is right

      module _ (k : checked_of first states p g ≡ Ok tt) where
        right : Says (Ok tt)
        right = subst Says (sym checked ∙ k) says

        pub tests : (p.below ≡ true) × ((states ≤ 128) × Within g)
        tests =
            let a = all_passed _ _ _ k in
            let w = and_parts (leb states 128) (within g) a.1 in
            ((and_parts (not (eqb states 0)) p.below a.0).1, (leb-true states 128 w.0, is_within g w.1))

        states_same : states ≡ h.states
        states_same = bounded_few h.states states (q ∙ ap (λ (n : ℕ). min n 129) (states_is s t e first is)) tests.1.0

        gathering : GatheredOf xs g
        gathering = gathered_of s t e first is few p g o states q f tests.0 (omega (arith, tests.1.0, states_same))

        origin_small : (u : LabelledTransition) → Memᴰ u (transitions_of xs) → u.origin < 256
        origin_small u m =
            let b = ((transitions_merged xs).exactly u).0 m in
            let below : b.line.from < h.states =
            elim (dec_lt b.line.from h.states) [
              | yes l ↦ l
              | no l ↦ absurd (differ (states_in_range h xs) right.1.0 (state_over h xs b.among (inl (omega arith))))
            ] in
            omega (arith, ap (λ (v : LabelledTransition). v.origin) b.says, tests.1.0, states_same)

        body_is : held_body states (length g.labels) g.keys ≡ body_of h.states xs
        unfolding body_of
        body_is =
            let j = gathering.keys_are tests.1.1 in
            let b : key_bytes g.keys ≡ transition_bytes (transitions_of xs) =
            bytes_held g.keys (λ u m. origin_small u (subst (Memᴰ u) j m)) ∙ ap transition_bytes j in
            let n = keys_counted xs g gathering tests.1.1 in
            let l = labels_counted xs g gathering tests.1.1 in
            λ i. states_same i ∷ l i ∷ two_bytes (n i) (b i)

        pub written : {r : Converted} {out' : List ℕ} → BodyWritten states (length g.labels) g.keys out r out' → Converts s out r out'
        written {r} {out'} b =
            let n : length (body_of h.states xs) ≡ 4 + 3 * length g.keys =
            body_length h.states xs ∙ ap (λ (m : ℕ). 4 + 3 * m) (sym (keys_counted xs g gathering tests.1.1)) in
            elim (dec_lt (length out) (4 + 3 * length g.keys)) [
              | yes l ↦
                  let a = b.short l in
                  subst (λ (x : Converted). Converts s out x out') (sym a.0)
                  (subst (λ (y : List ℕ). Converts s out (Err OutputShort) y) (sym a.1)
                  (answers_short s out read right.0 right.1.0 right.1.1 (omega arith)))
              | no l ↦
                  let a = b.wrote (omega arith) in
                  let z : out' ≡ body_of h.states xs ++ drop (length (body_of h.states xs)) out =
                  a.1 ∙ ap₂ (λ (x : List ℕ) (m : ℕ). x ++ drop m out) body_is (sym n) in
                  subst (λ (x : Converted). Converts s out x out') (sym (a.0 ∙ ap Ok (sym n)))
                  (subst (λ (y : List ℕ). Converts s out (Ok (length (body_of h.states xs))) y) (sym z)
                  (answers_wrote s out read right.0 right.1.0 right.1.1 (omega arith)))
            ]
