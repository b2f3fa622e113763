-- What every call of `parse` answers, leaves and means. The statement is ParseCorrect of specs/ParseCorrect.antt.
use Prim.Native.Nat.{ℕ, ◌≤◌}
use mathlib.Core.Path.{◌≡◌, refl, sym, ap, subst, ◌∙◌}
use mathlib.Core.Bool.{Bool, true, false}
use mathlib.Core.List.{List, ◌++◌}
use mathlib.Core.Logic.{◌⊎◌, inl, inr, ◌≢◌}
use native.Mathlib.Omega.{arith}
use native.Mathlib.Decide.{dec_lt}
use lib.ListN.{length, take, drop}
use lib.Seq.{take_at}
use Rattle.action_line.specs.Grammar.{Tree, Mentions, Reading}
use Rattle.action_line.specs.Entries.{entry_total, body_of}
use Rattle.action_line.specs.Reading.{LineReading, unreadable, readable, reading_of}
use Rattle.action_line.specs.Parsing.{Parsed, actions_below, reported_parse, Parses}
use Rattle.action_line.specs.ParseCorrect.{KnownActions, RefusedWith, AcceptedWith, MeansTree, ParseCorrect}
use Rattle.action_line.specs.declared.ParseError.TheVariants.{Unreadable, UnknownAction, TooManyEntries, OutputShort}
use Rattle.std.proofs.Common.{Ok, Err}
use Rattle.action_line.proofs.Reading.Readings.{readings_exactly}
use Rattle.action_line.proofs.Body.Totals.{below_known, unknown_mentioned}
use Rattle.action_line.proofs.Body.Decoding.{means_tree}
use Rattle.action_line.proofs.Steps.Answering.{answers_unreadable, answers_unknown, answers_many, answers_short, answers_wrote}

-- ---- actions below A

module _ (A : ℕ) (t : Tree) where
  known_below : KnownActions A t → actions_below A t ≡ true
  known_below k = by (actions_below A t) refl
    where
      by : (b : Bool) → actions_below A t ≡ b → actions_below A t ≡ true
      by true q = q
      by false q = let u = unknown_mentioned A t q in absurd (omega (arith, k.below u.0 u.1))

  unknown_above : (a : ℕ) → Mentions t a → A ≤ a → actions_below A t ≡ false
  unknown_above a m l = by (actions_below A t) refl
    where
      by : (b : Bool) → actions_below A t ≡ b → actions_below A t ≡ false
      by true q = absurd (omega (arith, (below_known A t q).below a m))
      by false q = q

module _ (A : ℕ) (line out : List ℕ) where
  -- ---- every call is refused with a number, or accepted

  abbrev Decided : Type 0
  Decided = ((k : ℕ) × (1 ≤ k) × RefusedWith A line (length out) k) ⊎ ((t : Tree) × AcceptedWith A line (length out) t)

  by_size : (t : Tree) → Reading line t → KnownActions A t → Decided
  by_size t r k =
      elim (dec_lt 32 (entry_total t)) [
        | yes many ↦ inl (34, omega arith, RefusedWith.many_entries t r k many)
        | no few ↦ elim (dec_lt (length out) (length (body_of t))) [
          | yes short ↦ inl (22, omega arith, RefusedWith.output_short t r k (omega arith) short)
          | no enough ↦ inr (t, record { reading = r; known = k; few_entries = omega arith; room_enough = omega arith })
        ]
      ]

  by_actions : (t : Tree) → Reading line t → (b : Bool) → actions_below A t ≡ b → Decided
  by_actions t r true q = by_size t r (below_known A t q)
  by_actions t r false q =
      let u = unknown_mentioned A t q in inl (33, omega arith, RefusedWith.unknown_action t u.0 r u.1 u.2)

  by_reading : (r : LineReading) → reading_of line ≡ r → Decided
  by_reading unreadable q = inl (32, omega arith, RefusedWith.no_reading (λ t r. absurd (never (sym q ∙ (readings_exactly line t).1 r))))
    where
      never : {t : Tree} → unreadable ≡ readable t → ⊥
      never e = let z : ◌≡◌ {A = ℕ} 0 1 = cc in omega arith
  by_reading (readable t) q = by_actions t ((readings_exactly line t).0 q) (actions_below A t) refl

  decided : Decided
  decided = by_reading (reading_of line) refl

  -- ---- and answered so

  -- a refusal with its number; the output stays
  record Refuses (k : ℕ) : Type 0 where
    answer : Parsed
    parses : Parses A line out answer out
    number_is : (reported_parse answer).number ≡ k
    size_none : (reported_parse answer).size ≡ 0

  refuses : {k : ℕ} → RefusedWith A line (length out) k → Refuses k
  refuses (RefusedWith.no_reading none) =
      record { answer = Err Unreadable; parses = answers_unreadable A line out (no_reading (reading_of line) refl); number_is = refl; size_none = refl }
    where
      no_reading : (r : LineReading) → reading_of line ≡ r → reading_of line ≡ unreadable
      no_reading unreadable q = q
      no_reading (readable t) q = absurd (none t ((readings_exactly line t).0 q))
  refuses (RefusedWith.unknown_action t a r m l) =
      record {
        answer = Err UnknownAction;
        parses = answers_unknown A line out ((readings_exactly line t).1 r) (unknown_above A t a m l);
        number_is = refl;
        size_none = refl;
      }
  refuses (RefusedWith.many_entries t r k l) =
      record {
        answer = Err TooManyEntries;
        parses = answers_many A line out ((readings_exactly line t).1 r) (known_below A t k) l;
        number_is = refl;
        size_none = refl;
      }
  refuses (RefusedWith.output_short t r k few l) =
      record {
        answer = Err OutputShort;
        parses = answers_short A line out ((readings_exactly line t).1 r) (known_below A t k) few l;
        number_is = refl;
        size_none = refl;
      }

  writes : (t : Tree) → AcceptedWith A line (length out) t
      → Parses A line out (Ok (length (body_of t))) (body_of t ++ drop (length (body_of t)) out)
  writes t a =
      answers_wrote A line out ((readings_exactly line t).1 a.reading) (known_below A t a.known) a.few_entries a.room_enough

  module _ (answer : Parsed) (out' : List ℕ) (p : Parses A line out answer out') where
    same_answer : {r : Parsed} {o : List ℕ} → Parses A line out r o → (answer ≡ r) × (out' ≡ o)
    same_answer q = (p.0 ∙ sym q.0, p.1.1 ∙ sym q.1.1)

    given : {k : ℕ} → RefusedWith A line (length out) k → (reported_parse answer).number ≡ k
    given r = let w = refuses r in ap (λ (x : Parsed). (reported_parse x).number) (same_answer w.parses).0 ∙ w.number_is

    written : (t : Tree) → AcceptedWith A line (length out) t → answer ≡ Ok (length (body_of t))
    written t a = (same_answer (writes t a)).0

    none_given : (t : Tree) → AcceptedWith A line (length out) t → (reported_parse answer).number ≡ 0
    none_given t a = ap (λ (x : Parsed). (reported_parse x).number) (written t a)

    size_is : (t : Tree) → AcceptedWith A line (length out) t → (reported_parse answer).size ≡ length (body_of t)
    size_is t a = ap (λ (x : Parsed). (reported_parse x).size) (written t a)

    output_is : (t : Tree) → AcceptedWith A line (length out) t → out' ≡ body_of t ++ drop (reported_parse answer).size out
    output_is t a = (same_answer (writes t a)).1 ∙ ap (λ (n : ℕ). body_of t ++ drop n out) (sym (size_is t a))

    means : (t : Tree) → AcceptedWith A line (length out) t → MeansTree A t (take (reported_parse answer).size out')
    means t a =
        subst (MeansTree A t)
        (sym (ap (take (reported_parse answer).size) (output_is t a) ∙ take_at (body_of t) _ (reported_parse answer).size (sym (size_is t a))))
        (means_tree A t a.known a.few_entries)

    refused_by_lem : (k : ℕ) → 1 ≤ k → (reported_parse answer).number ≡ k → Decided → RefusedWith A line (length out) k
    refused_by_lem k l q (inl (j, m, r)) = subst (RefusedWith A line (length out)) (sym (given r) ∙ q) r
    refused_by_lem k l q (inr (t, a)) = absurd (omega (arith, none_given t a))

    accepted_by : (reported_parse answer).number ≡ 0 → Decided → (t : Tree) × AcceptedWith A line (length out) t
    accepted_by q (inl (k, l, r)) = absurd (omega (arith, given r))
    accepted_by q (inr a) = a

    refused : (reported_parse answer).number ≢ 0 → Decided → ((reported_parse answer).size ≡ 0) × (out' ≡ out)
    refused h (inl (k, l, r)) =
        let w = refuses r in
        let s = same_answer w.parses in
        (ap (λ (x : Parsed). (reported_parse x).size) s.0 ∙ w.size_none, s.1)
    refused h (inr (t, a)) = absurd (h (none_given t a))

place_none : (answer : Parsed) → (reported_parse answer).place ≡ 0
place_none (Ok n) = refl
place_none (Err Unreadable) = refl
place_none (Err UnknownAction) = refl
place_none (Err TooManyEntries) = refl
place_none (Err OutputShort) = refl

pub parse_correct : ParseCorrect
parse_correct A line out answer out' p =
    record {
      refused_with = λ k l. (λ q. refused_by_lem A line out answer out' p k l q (decided A line out), given A line out answer out' p);
      accepted_with = (λ q. accepted_by A line out answer out' p q (decided A line out), λ a. none_given A line out answer out' p a.0 a.1);
      place_none = place_none answer;
      size_is = size_is A line out answer out' p;
      output_is = output_is A line out answer out' p;
      means = means A line out answer out' p;
      refused = λ h. refused A line out answer out' p h (decided A line out);
    }
