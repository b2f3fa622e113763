-- The way put together from its end: the bytes from each transition on are those of the rest of the way.
use Prim.Native.Nat.{ℕ, suc, ◌+◌, ◌-◌, ◌*◌, ◌<◌, ◌≤◌}
use mathlib.Core.Path.{◌≡◌, refl, sym, ap, subst, ◌∙◌}
use mathlib.Core.List.{List, [], ◌∷◌, ◌++◌, append_assoc}
use native.Mathlib.Omega.{arith}
use borrow.Rule.Slice.PartMut.{put_mid, Post-is, same_len_mid}
use lib.ListN.{length, get_or, drop, take, length-drop}
use lib.Seq.{drop_at, length-take-le}
use Rattle.sheet.specs.Plan.{transition_count, origin, label, target}
use Rattle.sheet.specs.TransitionSystem.{LabelledTransition, transition_of}
use Rattle.closest.specs.Steps.{Steps}
use Rattle.closest.specs.Tracing.{last_transition, way_to, way_bytes}
use Rattle.closest.specs.Internal.Tracing.{LastsRight, WayRequires}
use Rattle.closest.proofs.Traces.Lasts.{last_below, last_leads}

abbrev pub three_bytes : LabelledTransition → List ℕ
three_bytes x = x.origin ∷ x.action ∷ x.target ∷ []

pub bytes_append : (l : List LabelledTransition) (x : LabelledTransition) → way_bytes (l ++ (x ∷ [])) ≡ way_bytes l ++ three_bytes x
unfolding way_bytes
bytes_append [] x = refl
bytes_append (y ∷ l) x = ap {B = List ℕ} (λ r. y.origin ∷ y.action ∷ y.target ∷ r) (bytes_append l x)

-- three bytes put in the place of those at i
abbrev pub with_three : List ℕ → ℕ → List ℕ → List ℕ
with_three out i l = put_mid i (i + 3 - i) out l

three_length : (out : List ℕ) (i : ℕ) (x : LabelledTransition) → i + 3 ≤ length out → length (with_three out i (three_bytes x)) ≡ length out
three_length out i x h =
    let k : i + 3 - i ≡ 3 = omega arith in
    same_len_mid i (i + 3 - i) out (three_bytes x) (sym k ∙ sym (length-take-le (i + 3 - i) (drop i out) (omega (arith, length-drop i out))))

drop_three : (out : List ℕ) (i : ℕ) (l : List ℕ) → i + 3 ≤ length out → drop i (with_three out i l) ≡ l ++ drop (i + 3) out
drop_three out i l h = drop_at (take i out) _ i (length-take-le i out (omega arith)) ∙ ap (λ (r : List ℕ). l ++ r) (Post-is i (i + 3) out (omega arith))

-- the way to the state, and the bytes behind it
abbrev pub written : List ℕ → ℕ → ℕ → List ℕ → List ℕ
written p n state out = way_bytes (way_to p n state) ++ drop (3 * n) out

-- what is to be written is the way to the state `at`, of `left` steps, and what stands behind it
pub record Filling (p : List ℕ) (state n : ℕ) (before out : List ℕ) (at left : ℕ) : Type 0 where
  pub counted : Steps p at left
  pub room : length out ≡ length before
  pub inside : 3 * left ≤ length before
  pub same : written p n state before ≡ written p left at out

pub filling_starts : {p lasts : List ℕ} {state n : ℕ} {out : List ℕ} → WayRequires p lasts state n out → Filling p state n out out state n
filling_starts w = record { counted = w.counted; room = refl; inside = w.room; same = refl }

module _ {p : List ℕ} {state n : ℕ} {before out : List ℕ} {at left : ℕ} (w : Filling p state n before out at left) where
  module _ (h : 0 < left) where
    one_less : Steps p at (suc (left - 1))
    one_less = subst (Steps p at) (omega arith) w.counted

    abbrev pub last : ℕ
    last = last_transition p (left - 1) at

    module _ {lasts : List ℕ} (r : LastsRight p lasts) where
      pub stored : get_or lasts at 0 ≡ last
      stored = r.right at (left - 1) one_less

      pub stored_below : get_or lasts at 0 < transition_count p
      stored_below = omega (arith, stored, last_below p at (left - 1) one_less)

    pub filling_room : 3 * (left - 1) + 3 ≤ length out
    filling_room = omega (arith, w.inside, w.room)

    shorter : written p left at out ≡ way_bytes (way_to p (left - 1) (origin p last)) ++ (three_bytes (transition_of p last) ++ drop (3 * (left - 1) + 3) out)
    unfolding way_to
    shorter =
        let e : left ≡ suc (left - 1) = omega arith in
        let d : 3 * left ≡ 3 * (left - 1) + 3 = omega arith in
        ap (λ (k : ℕ). way_bytes (way_to p k at) ++ drop (3 * left) out) e ∙
        (ap (λ (k : ℕ). way_bytes (way_to p (suc (left - 1)) at) ++ drop k out) d ∙
        (ap (λ (l : List ℕ). l ++ drop (3 * (left - 1) + 3) out) (bytes_append (way_to p (left - 1) (origin p last)) (transition_of p last)) ∙
        append_assoc (way_bytes (way_to p (left - 1) (origin p last))) (three_bytes (transition_of p last)) (drop (3 * (left - 1) + 3) out)))

    pub filling_on : (a b z : ℕ) → a ≡ origin p last → b ≡ label p last → z ≡ target p last → {part : List ℕ} → part ≡ a ∷ b ∷ z ∷ []
        → Filling p state n before (with_three out (3 * (left - 1)) part) a (left - 1)
    filling_on a b z e f g h = rw (h, e, f, g) (record {
      counted = (last_leads p at (left - 1) one_less).0;
      room = three_length out (3 * (left - 1)) (transition_of p last) filling_room ∙ w.room;
      inside = omega (arith, w.inside);
      same =
          w.same ∙ (shorter ∙
          ap (λ (l : List ℕ). way_bytes (way_to p (left - 1) (origin p last)) ++ l)
          (sym (drop_three out (3 * (left - 1)) (three_bytes (transition_of p last)) filling_room)));
    })

  pub filling_ends : left ≡ 0 → out ≡ written p n state before
  unfolding way_to way_bytes
  filling_ends z = sym (w.same ∙ ap (λ (k : ℕ). written p k at out) z)
