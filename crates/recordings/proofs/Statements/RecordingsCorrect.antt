-- Every call of `shortest_failing`, by the cases of its sheet and recordings.
use Prim.Native.Nat.{ℕ}
use mathlib.Core.Path.{◌≡◌, refl, sym, ap, subst, ◌∙◌}
use mathlib.Core.List.{List, []}
use mathlib.Core.Logic.{◌≢◌, inl, inr}
use native.Mathlib.Omega.{arith}
use lib.ListN.{length, take}
use Rattle.sheet.proofs.Acceptance.Numbers.{refused_number}
use Rattle.recordings.specs.Shortest.{shortest_of, part_for, reported_shortest}
use Rattle.recordings.specs.RecordingsCorrect.{NotRefused, ShortestFailing, FirstHolds, AllHold, ShortestAnswered, RecordingsCorrect}
use Rattle.recordings.specs.Shortest.{Answer}
use Rattle.recordings.specs.declared.Failing.TheVariants.{First, Second}
use Rattle.std.specs.Prelude.{Some, None, Ok}
use Rattle.recordings.proofs.Plans.Queries.{holds_exactly}
use Rattle.recordings.proofs.Statements.Beginnings.{shortest_same, one_named}
use Rattle.recordings.proofs.Statements.Outcomes.{Found, Outcome, outcome, number}
use Rattle.recordings.proofs.Statements.Outcomes.{in_order, forty_two, forty_three, judged_exactly, place_none}
use Rattle.recordings.proofs.Statements.RunAsSheet.{run_as_sheet}
use Rattle.recordings.proofs.Statements.OwnPlan.{own_plan}

abbrev size_of : Answer → ℕ
size_of answer = (reported_shortest answer).size

module _ (s first second : List ℕ) where
  -- the call answered so, and handed back the part that goes with it
  abbrev Answered : Answer → Type 0
  Answered answer = ShortestAnswered s first second answer (part_for first second answer)

  refusing : {answer : Answer} → Outcome s first second answer → number answer ≢ 0 → size_of answer ≡ 0
      → part_for first second answer ≡ [] → Answered answer
  refusing c n z p =
      let not-judged : NotRefused s first second → ⊥ = λ j. n ((judged_exactly s first second c).1 j) in
      record {
        in_order = in_order s first second c;
        forty_two = forty_two s first second c;
        forty_three = forty_three s first second c;
        judged = judged_exactly s first second c;
        place_none = place_none s first second c;
        size_is = z ∙ sym (ap length p);
        first_named = λ m b. (λ h. absurd (n (ap number h.0)), λ g. absurd (not-judged g.0));
        second_named = λ m b. (λ h. absurd (n (ap number h.0)), λ g. absurd (not-judged g.0));
        none_fails = (λ h. absurd (n (ap number h)), λ g. absurd (not-judged g.0));
        none_part = λ h. p;
        refused = λ h. (z, p);
      }

  module _ (j : NotRefused s first second) where
    naming_first : (n : ℕ) → length (take n first) ≡ n → ShortestFailing s first second (take n first) → Answered (Ok (Some (First n)))
    naming_first n size f =
        let c : Outcome s first second (Ok (Some (First n))) = Outcome.judged j (Found.first_fails n size f) in
        record {
          in_order = in_order s first second c;
          forty_two = forty_two s first second c;
          forty_three = forty_three s first second c;
          judged = judged_exactly s first second c;
          place_none = place_none s first second c;
          size_is = sym size;
          first_named = λ m b. (
            λ h. (j, (sym (ap size_of h.0) ∙ sym size ∙ ap length h.1, subst (ShortestFailing s first second) h.1 f)),
            λ g. let same : take n first ≡ b = shortest_same f g.1.1 in (ap (λ (k : ℕ). Ok (Some (First k))) (sym size ∙ ap length same ∙ sym g.1.0), same),
          );
          second_named = λ m b. (λ h. absurd (cc h.0), λ g. absurd (one_named f g.1.1.0 g.1.1.1));
          none_fails = (λ h. absurd (cc h), λ g. absurd (f.fails (g.1 (take n first) (inl f.beginning))));
          none_part = λ h. absurd (cc h);
          refused = λ h. absurd (h refl);
        }

    naming_second : (n : ℕ) → length (take n second) ≡ n → ShortestFailing s second first (take n second) → FirstHolds s first (take n second)
        → Answered (Ok (Some (Second n)))
    naming_second n size f holds =
        let c : Outcome s first second (Ok (Some (Second n))) = Outcome.judged j (Found.second_fails n size f holds) in
        record {
          in_order = in_order s first second c;
          forty_two = forty_two s first second c;
          forty_three = forty_three s first second c;
          judged = judged_exactly s first second c;
          place_none = place_none s first second c;
          size_is = sym size;
          first_named = λ m b. (λ h. absurd (cc h.0), λ g. absurd (one_named g.1.1 f holds));
          second_named = λ m b. (
            λ h. (
              j,
              (sym (ap size_of h.0) ∙ sym size ∙ ap length h.1, (subst (ShortestFailing s second first) h.1 f, subst (FirstHolds s first) h.1 holds)),
            ),
            λ g. let same : take n second ≡ b = shortest_same f g.1.1.0 in (ap (λ (k : ℕ). Ok (Some (Second k))) (sym size ∙ ap length same ∙ sym g.1.0), same),
          );
          none_fails = (λ h. absurd (cc h), λ g. absurd (f.fails (g.1 (take n second) (inr f.beginning))));
          none_part = λ h. absurd (cc h);
          refused = λ h. absurd (h refl);
        }

    naming_none : AllHold s first second → Answered (Ok None)
    naming_none all =
        let c : Outcome s first second (Ok None) = Outcome.judged j (Found.none_fails all) in
        record {
          in_order = in_order s first second c;
          forty_two = forty_two s first second c;
          forty_three = forty_three s first second c;
          judged = judged_exactly s first second c;
          place_none = place_none s first second c;
          size_is = refl;
          first_named = λ m b. (λ h. absurd (cc h.0), λ g. absurd (g.1.1.fails (all b (inl g.1.1.beginning))));
          second_named = λ m b. (λ h. absurd (cc h.0), λ g. absurd (g.1.1.0.fails (all b (inr g.1.1.0.beginning))));
          none_fails = (λ h. (j, all), λ g. refl);
          none_part = λ h. refl;
          refused = λ h. absurd (h refl);
        }

    naming : {answer : Answer} → Found s first second answer → Answered answer
    naming (Found.first_fails n size f) = naming_first n size f
    naming (Found.second_fails n size f holds) = naming_second n size f holds
    naming (Found.none_fails all) = naming_none all

  answered : {answer : Answer} → Outcome s first second answer → Answered answer
  answered (Outcome.unread x e) = refusing (Outcome.unread x e) (λ h. omega (arith, refused_number x)) refl refl
  answered (Outcome.long k l) = refusing (Outcome.long k l) (λ h. omega arith) refl refl
  answered (Outcome.over k l o) = refusing (Outcome.over k l o) (λ h. omega arith) refl refl
  answered (Outcome.judged j f) = naming j f

  calling : (answer : Answer) (part : List ℕ) → answer ≡ shortest_of s first second → part ≡ part_for first second (shortest_of s first second)
      → ShortestAnswered s first second answer part
  calling answer part e p =
      subst (λ (a : Answer). ShortestAnswered s first second a part) (sym e)
      (subst (ShortestAnswered s first second (shortest_of s first second)) (sym p) (answered (outcome s first second)))

pub recordings_correct : RecordingsCorrect
recordings_correct =
    record {
      computed = holds_exactly;
      as_sheet = run_as_sheet;
      hands_back = λ s first second answer part h. calling s first second answer part h.0 h.1.1;
      own_plan = own_plan;
    }
