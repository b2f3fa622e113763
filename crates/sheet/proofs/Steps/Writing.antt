-- What the writer's code shows: four copies put the sheet at the front of the output, and each answer is the one that the checks give.
use Prim.Native.Nat.{ℕ, ◌+◌, ◌-◌, ◌<◌, ◌≤◌}
use mathlib.Core.Path.{◌≡◌, refl, sym, ap, ◌∙◌}
use mathlib.Core.List.{List, [], ◌++◌, append_assoc}
use native.Mathlib.Omega.{arith}
use lib.ListN.{length, take, drop, length-append}
use lib.Seq.{paste, take_at, drop-drop, take-length}
use borrow.Rule.Slice.PartMut.{put_mid, Post-is}
use borrow.Author.Tests.{le-leb, lt-leb}
use Rattle.sheet.specs.Reading.{bodies_check}
use Rattle.sheet.specs.Writing.{head, sheet_of, sheet_length, write_check, written_of, reported_write, output_after}
use Rattle.sheet.specs.RunningCalls.{Writes}
use Rattle.sheet.specs.Internal.Room.{Room}
use Rattle.sheet.specs.declared.Refusal.{Refusal}
use Rattle.sheet.specs.declared.Refusal.TheVariants.{OutputShort}
use Rattle.std.specs.Prelude.{Result, Err, Ok}
use Rattle.sheet.proofs.Acceptance.Sheet.{BodyLengths, body_lengths, bodies_iff}
use Rattle.sheet.proofs.Roundtrip.RoundTrip.{written_length}

-- the output once the part of it that was lent for a copy is back
pub copied_part : (out src last : List ℕ) (at : ℕ) → at + length src ≤ length out → last ≡ src → put_mid at (at + length src - at) out last ≡ paste out at src (length src)
copied_part out src last at h q =
    let end : ℕ = at + length src in
    let copy : last ≡ take (length src) src = q ∙ sym (take-length src) in
    (λ i. take at out ++ (copy i ++ Post-is at end out (omega arith) i)) ∙ sym (append_assoc (take at out) (take (length src) src) (drop end out))

-- a copy right after what has been written so far
next_copy : (done out src : List ℕ) (at : ℕ) → length done ≡ at → paste (done ++ drop at out) at src (length src) ≡ (done ++ src) ++ drop (at + length src) out
next_copy done out src at e =
    ap (λ (front : List ℕ). front ++ take (length src) src ++ drop (at + length src) (done ++ drop at out)) (take_at done (drop at out) at e) ∙
    (ap (λ (middle : List ℕ). done ++ middle ++ drop (at + length src) (done ++ drop at out)) (take-length src) ∙
    ap (λ (rest : List ℕ). done ++ src ++ rest) tail)
  where
    tail : drop (at + length src) (done ++ drop at out) ≡ drop (at + length src) out
    tail =
        sym (drop-drop (length src) at (done ++ drop at out)) ∙
        (ap (drop (length src)) (lib.Seq.drop_at done (drop at out) at e) ∙ drop-drop (length src) at out)

module _ (p a r out : List ℕ) where
  answers : (w : Result ℕ Refusal) (now : List ℕ) → w ≡ written_of p a r (length out) → now ≡ output_after p a r out → Writes p a r out w now
  answers w now e f = (e, (ap reported_write e, f))

  pub copied : (one two three four : List ℕ) → one ≡ paste out 0 (head (length p) (length a) (length r)) 17 → two ≡ paste one 17 p (length p)
      → three ≡ paste two (17 + length p) a (length a) → four ≡ paste three (17 + length p + length a) r (length r)
      → four ≡ sheet_of p a r ++ drop (sheet_length p a r) out
  unfolding sheet_of
  copied one two three four e f g h =
      let start : List ℕ = head (length p) (length a) (length r) in
      let first : one ≡ start ++ drop 17 out = e ∙ next_copy [] out start 0 refl in
      let second : two ≡ (start ++ p) ++ drop (17 + length p) out = f ∙ (ap (λ (x : List ℕ). paste x 17 p (length p)) first ∙ next_copy start out p 17 refl) in
      let third : three ≡ ((start ++ p) ++ a) ++ drop (17 + length p + length a) out =
      g ∙ (ap (λ (x : List ℕ). paste x (17 + length p) a (length a)) second ∙ next_copy (start ++ p) out a (17 + length p) (length-append start p)) in
      let whole : four ≡ (((start ++ p) ++ a) ++ r) ++ drop (17 + length p + length a + length r) out =
      h ∙ (ap (λ (x : List ℕ). paste x (17 + length p + length a) r (length r)) third ∙
      next_copy ((start ++ p) ++ a) out r (17 + length p + length a) (length-append (start ++ p) a ∙ ap (λ (k : ℕ). k + length a) (length-append start p))) in
      whole ∙ ap (λ (x : List ℕ). x ++ drop (sheet_length p a r) out) (append_assoc (start ++ p) a r ∙ append_assoc start p (a ++ r))

  pub refused : (x : Refusal) → bodies_check p a r ≡ Err x → Writes p a r out (Err x) out
  unfolding written_of output_after write_check
  refused x e = answers (Err x) out (rw e) (rw e)

  module _ (e : bodies_check p a r ≡ Ok tt) where
    pub short : length out < sheet_length p a r → Writes p a r out (Err OutputShort) out
    unfolding written_of output_after write_check
    short h =
        let f = lt-leb (sheet_length p a r) (length out) h in
        answers (Err OutputShort) out (rw (e, f)) (rw (e, f))

    pub wrote : sheet_length p a r ≤ length out → (now : List ℕ) → now ≡ sheet_of p a r ++ drop (sheet_length p a r) out → Writes p a r out (Ok (sheet_length p a r)) now
    unfolding written_of output_after write_check
    wrote h now f =
        let g = le-leb (sheet_length p a r) (length out) h in
        answers (Ok (sheet_length p a r)) now (rw (e, g))
        (f ∙ rw (e, g) (ap (λ (n : ℕ). sheet_of p a r ++ drop n out) (sym (written_length p a r))))

    -- accepted bodies have lengths that two bytes hold
    pub bounded : BodyLengths p a r
    bounded = body_lengths ((bodies_iff p a r).0 e)

    pub roomy : sheet_length p a r ≤ length out → Room p a r out
    roomy h =
        let b = bounded in
        record { plan_short = omega arith; actions_short = omega arith; rule_short = omega arith; room = h }
