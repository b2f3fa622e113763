-- The lines of transitions that stand as bytes, put one after another; and those of a way that shortest_way has written.
use Prim.Native.Nat.{ℕ, zero, suc, ◌+◌, ◌*◌, ◌<◌, ◌≤◌}
use mathlib.Core.Path.{◌≡◌, refl, sym, ap, subst, ◌∙◌}
use mathlib.Core.List.{List, [], ◌∷◌, ◌++◌, append_assoc, append-nil}
use native.Mathlib.Numerals.{add-one}
use native.Mathlib.Omega.{arith}
use lib.ListN.{length, take, drop, take-append-drop}
use lib.Seq.{get_or-append-add}
use Rattle.text.specs.Decimal.{decimal_of}
use Rattle.text.specs.Words.{space, line_feed}
use Rattle.text.proofs.Placing.{Placed, place_fitting, buffer_fitting, placed_fitting}
use Rattle.sheet.specs.Bytes.{byte}
use Rattle.sheet.specs.Plan.{origin}
use Rattle.sheet.specs.TransitionSystem.{LabelledTransition, transition_of}
use Rattle.closest.specs.Tracing.{last_transition, way_to, way_bytes}
use Rattle.closest.proofs.Traces.Backwards.{three_bytes, bytes_append}
use Rattle.closest.proofs.Traces.Ways.{bytes_length, way_length}
use Rattle.closest_state.specs.Text.{transition_line, way_lines}
use Rattle.closest_state.specs.Internal.Lines.{line_at, lines_of, LinesRequire, PutsAt}

placed_none : (at : ℕ) (out : List ℕ) → at ≤ length out → Placed at out [] at out
placed_none at out h =
    let z : at + 0 ≡ at = omega arith in
    record {
      place_is = sym (place_fitting [] at out (omega arith) ∙ z);
      buffer_is = λ l. sym (buffer_fitting [] at out l ∙ (ap (λ (d : List ℕ). d ++ drop (at + 0) out) (append-nil (take at out)) ∙
          (ap (λ (k : ℕ). take at out ++ drop k out) z ∙ take-append-drop at out)));
      length_is = refl;
    }

-- the lines of the first i are put
pub record Putting (way : List ℕ) (count at : ℕ) (before : List ℕ) (i end : ℕ) (out : List ℕ) : Type 0 where
  pub within : i ≤ count
  pub placed : Placed at before (lines_of way i) end out

pub putting_starts : {way : List ℕ} {count at : ℕ} {out : List ℕ} → LinesRequire way count at out → Putting way count at out 0 at out
unfolding lines_of
putting_starts {way} {count} {at} {out} r = record { within = omega arith; placed = placed_none at out (omega (arith, r.fits)) }

-- one line more, as it is put
abbrev pub with_line : List ℕ → ℕ → List ℕ
with_line way i =
    lines_of way i ++ decimal_of (byte way (3 * i)) ++ space ++ decimal_of (byte way (3 * i + 1)) ++ space ++ decimal_of (byte way (3 * i + 2)) ++ line_feed

next_line : (way : List ℕ) (i : ℕ) → with_line way i ≡ lines_of way (i + 1)
unfolding lines_of transition_line
next_line way i = rw (add-one i) (simp append_assoc)

pub putting_next : {way : List ℕ} {count at : ℕ} {before : List ℕ} {i end : ℕ} {out : List ℕ} → i < count → Placed at before (with_line way i) end out
    → Putting way count at before (i + 1) end out
putting_next {way} {count} {at} {before} {i} {end} {out} h p =
    record { within = omega arith; placed = subst (λ (text : List ℕ). Placed at before text end out) (next_line way i) p }

pub putting_ends : {way : List ℕ} {count at : ℕ} {before : List ℕ} {i end : ℕ} {out : List ℕ} → Putting way count at before i end out
    → count ≤ i → LinesRequire way count at before → PutsAt (lines_of way count) at before end out
putting_ends {way} {count} {at} {before} {i} {end} {out} w l r =
    let e : i ≡ count = omega (arith, w.within) in
    placed_fitting (subst (λ (k : ℕ). Placed at before (lines_of way k) end out) e w.placed) r.fits

-- ---- the lines of a way

lines_append : (l : List LabelledTransition) (x : LabelledTransition)
    → way_lines (l ++ (x ∷ [])) ≡ way_lines l ++ transition_line x.origin x.action x.target
unfolding way_lines
lines_append [] x = append-nil (transition_line x.origin x.action x.target)
lines_append (y ∷ l) x =
    let line = transition_line y.origin y.action y.target in
    ap (λ (r : List ℕ). line ++ r) (lines_append l x) ∙ sym (append_assoc line (way_lines l) (transition_line x.origin x.action x.target))

-- the bytes behind others
line_behind : (front back : List ℕ) (n : ℕ) → length front ≡ 3 * n → line_at (front ++ back) n ≡ transition_line (byte back 0) (byte back 1) (byte back 2)
line_behind front back n e = λ i. transition_line (at 0 (3 * n) (omega arith) i) (at 1 (3 * n + 1) (omega arith) i) (at 2 (3 * n + 2) (omega arith) i)
  where
    at : (k j : ℕ) → j ≡ length front + k → byte (front ++ back) j ≡ byte back k
    at k j f = ap (λ (m : ℕ). byte (front ++ back) m) f ∙ get_or-append-add front back k 0

module _ (p : List ℕ) where
  pub lines_read : (n t : ℕ) (rest : List ℕ) → lines_of (way_bytes (way_to p n t) ++ rest) n ≡ way_lines (way_to p n t)
  unfolding way_to lines_of way_lines
  lines_read zero t rest = refl
  lines_read (suc n) t rest =
      let i = last_transition p n t in
      let x = transition_of p i in
      let l = way_to p n (origin p i) in
      let bytes : way_bytes (l ++ (x ∷ [])) ++ rest ≡ way_bytes l ++ (three_bytes x ++ rest) =
      ap (λ (b : List ℕ). b ++ rest) (bytes_append l x) ∙ append_assoc (way_bytes l) (three_bytes x) rest in
      let size : length (way_bytes l) ≡ 3 * n = omega (arith, bytes_length l, way_length p n (origin p i)) in
      ap (λ (b : List ℕ). lines_of b n ++ line_at b n) bytes ∙
      ((λ j. lines_read n (origin p i) (three_bytes x ++ rest) j ++ line_behind (way_bytes l) (three_bytes x ++ rest) n size j) ∙
      sym (lines_append l x))
