-- Texts put into a buffer, one after another.
use Prim.Native.Nat.{ℕ, ◌+◌, ◌-◌, ◌≤◌, ◌<◌}
use mathlib.Core.Path.{◌≡◌, sym, ap, ap₂, subst, subst₂, ◌∙◌}
use mathlib.Core.List.{List, ◌++◌, append_assoc}
use native.Mathlib.Omega.{arith}
use native.Mathlib.Decide.{dec_le}
use borrow.Author.Tests.{le-leb, lt-leb}
use lib.ListN.{length, take, drop, length-append}
use lib.Seq.{take_at, drop_at, drop-drop, length-take-le, take-length, length-paste}
use borrow.Rule.Slice.PartMut.{put_mid, Post-is}
use Rattle.text.specs.Placing.{buffer_after, place_after, starting_with, Puts}

module _ (text : List ℕ) (at : ℕ) (out : List ℕ) where
  module _ (h : at + length text ≤ length out) where
    pub place_fitting : place_after text at out ≡ at + length text
    unfolding place_after
    place_fitting = rw (le-leb _ _ h)

    pub buffer_fitting : buffer_after text at out ≡ take at out ++ text ++ drop (at + length text) out
    unfolding buffer_after
    buffer_fitting = rw (le-leb _ _ h)

  module _ (h : length out < at + length text) where
    pub place_past : place_after text at out ≡ length out + 1
    unfolding place_after
    place_past = rw (lt-leb _ _ h)

    pub buffer_past : buffer_after text at out ≡ out
    unfolding buffer_after
    buffer_past = rw (lt-leb _ _ h)

  fitting_length : at + length text ≤ length out → length (buffer_after text at out) ≡ length out
  fitting_length h =
      ap length (buffer_fitting h ∙ sym (ap (λ (l : List ℕ). take at out ++ l ++ drop (at + length text) out) (take-length text))) ∙
      length-paste out at text (length text) h (omega arith)

  pub same_length : length (buffer_after text at out) ≡ length out
  same_length = elim (dec_le (at + length text) (length out)) [
    | yes h ↦ fitting_length h
    | no h ↦ ap length (buffer_past (omega arith))
  ]

  -- the text copied into the part of the buffer where it is to stand
  pub copied : at + length text ≤ length out → {part : List ℕ} → part ≡ text → put_mid at (at + length text - at) out part ≡ buffer_after text at out
  copied h {part} whole =
      ap (λ (l : List ℕ). put_mid at (at + length text - at) out l) whole
      ∙ (ap (λ (l : List ℕ). take at out ++ (text ++ l)) (Post-is at (at + length text) out (omega arith))
      ∙ (sym (append_assoc (take at out) text (drop (at + length text) out)) ∙ sym (buffer_fitting h)))

module _ (x y : List ℕ) (at : ℕ) (out : List ℕ) where
  -- the place after two texts, wherever they are put: only the length of the buffer counts
  pub place_append : (buffer : List ℕ) → length buffer ≡ length out → place_after y (place_after x at out) buffer ≡ place_after (x ++ y) at out
  place_append buffer e =
      let l = length-append x y in
      elim (dec_le (at + length x) (length out)) [
        | yes h ↦ rw (place_fitting x at out h) (elim (dec_le (at + length x + length y) (length out)) [
          | yes g ↦ rw (place_fitting y (at + length x) buffer (omega arith), place_fitting (x ++ y) at out (omega arith)) (omega arith)
          | no g ↦ rw (place_past y (at + length x) buffer (omega arith), place_past (x ++ y) at out (omega arith), e)
        ])
        | no h ↦ rw (place_past x at out (omega arith))
            (rw (place_past y (length out + 1) buffer (omega arith), place_past (x ++ y) at out (omega arith), e))
      ]

  -- where both fit, two texts put one after the other are put as one
  pub buffer_append : at + length (x ++ y) ≤ length out → buffer_after y (place_after x at out) (buffer_after x at out) ≡ buffer_after (x ++ y) at out
  buffer_append h =
      let l = length-append x y in
      let k = length-append (take at out) x in
      let t = length-take-le at out (omega arith) in
      let n = at + length x in
      let end : n + length y ≡ at + length (x ++ y) = omega arith in
      let buffer = take at out ++ x ++ drop n out in
      let before : take n buffer ≡ take at out ++ x = take_at (take at out ++ x) (drop n out) n (omega arith) in
      let behind : drop n buffer ≡ drop n out = drop_at (take at out ++ x) (drop n out) n (omega arith) in
      let rest : drop (n + length y) buffer ≡ drop (at + length (x ++ y)) out =
      sym (drop-drop (length y) n buffer) ∙ (ap (drop (length y)) behind ∙ (drop-drop (length y) n out ∙ ap (λ (k : ℕ). drop k out) end)) in
      let same : length buffer ≡ length out = sym (ap length (buffer_fitting x at out (omega arith))) ∙ same_length x at out in
      rw (place_fitting x at out (omega arith), buffer_fitting x at out (omega arith), buffer_fitting y n buffer (omega arith))
      (rw (before, rest, append_assoc (take at out) x y) (sym (buffer_fitting (x ++ y) at out h)))

-- texts were put into the buffer out from the place at on, one after another, and text is all of them: the place after them is the text's, and so is
-- the buffer, if they all fit
pub record Placed (at : ℕ) (out text : List ℕ) (place : ℕ) (buffer : List ℕ) : Type 0 where
  pub place_is : place ≡ place_after text at out
  pub buffer_is : at + length text ≤ length out → buffer ≡ buffer_after text at out
  pub length_is : length buffer ≡ length out

pub placed_one : {at place : ℕ} {out text buffer : List ℕ} → (place ≡ place_after text at out) × (buffer ≡ buffer_after text at out)
    → Placed at out text place buffer
placed_one {at} {place} {out} {text} p = record { place_is = p.0; buffer_is = λ h. p.1; length_is = ap length p.1 ∙ same_length text at out }

-- the first text, put by a writer of that place and buffer
pub placed_first : {at n m : ℕ} {out e f text : List ℕ} → n ≡ at → e ≡ out → (m ≡ place_after text n e) × (f ≡ buffer_after text n e)
    → Placed at out text m f
placed_first {m = m} {f = f} {text = text} p q s =
    placed_one (subst₂ (λ (k : ℕ) (l : List ℕ). (m ≡ place_after text k l) × (f ≡ buffer_after text k l)) p q s)

pub placed_next : {at n m : ℕ} {out x e f : List ℕ} (y : List ℕ) → Placed at out x n e → (m ≡ place_after y n e) × (f ≡ buffer_after y n e)
    → Placed at out (x ++ y) m f
placed_next {at} {n} {m} {out} {x} {e} {f} y s p = record {
  place_is = p.0 ∙ (ap (λ (k : ℕ). place_after y k e) s.place_is ∙ place_append x y at out e s.length_is);
  buffer_is = λ h. let l = length-append x y in
      p.1 ∙ (ap (λ (k : ℕ). buffer_after y k e) s.place_is ∙
      (ap (buffer_after y (place_after x at out)) (s.buffer_is (omega arith)) ∙ buffer_append x y at out h));
  length_is = ap length p.1 ∙ (same_length y n e ∙ s.length_is);
}

-- texts put from a place of a buffer that holds them all
pub placed_fitting : {at place : ℕ} {out text buffer : List ℕ} → Placed at out text place buffer → at + length text ≤ length out
    → (place ≡ at + length text) × (buffer ≡ buffer_after text at out)
placed_fitting {at} {place} {out} {text} s h = (s.place_is ∙ place_fitting text at out h, s.buffer_is h)

module _ (x out : List ℕ) (h : length x ≤ length out) where
  -- a text put at the start is a buffer that starts with it
  starting_with_lem : buffer_after x 0 out ≡ starting_with x out
  starting_with_lem = let z : 0 + length x ≡ length x = omega arith in buffer_fitting x 0 out (omega arith) ∙ ap (λ (n : ℕ). x ++ drop n out) z

  pub starting_length : length (starting_with x out) ≡ length out
  starting_length = sym (ap length starting_with_lem) ∙ same_length x 0 out

-- a text put behind the one that a buffer starts with
pub starting_append : (x y out : List ℕ) → length (x ++ y) ≤ length out → buffer_after y (length x) (starting_with x out) ≡ starting_with (x ++ y) out
starting_append x y out h =
    let l = length-append x y in
    let first : length x ≤ length out = omega arith in
    let at : place_after x 0 out ≡ length x = place_fitting x 0 out (omega arith) ∙ omega arith in
    ap₂ (buffer_after y) (sym at) (sym (starting_with_lem x out first)) ∙ (buffer_append x y 0 out (omega arith) ∙ starting_with_lem (x ++ y) out h)

-- texts put from the start of a buffer that holds them all
pub placed_at_start : {place : ℕ} {out text buffer : List ℕ} → Placed 0 out text place buffer → length text ≤ length out → Puts text place out buffer
placed_at_start {place} {out} {text} s h =
    let k : 0 + length text ≤ length out = omega arith in
    let z : 0 + length text ≡ length text = omega arith in
    (s.place_is ∙ (place_fitting text 0 out k ∙ z), s.buffer_is k ∙ starting_with_lem text out h)

-- a text put at the start of a buffer that holds it
pub put_at_start : (text out : List ℕ) {n : ℕ} {buffer : List ℕ} → length text ≤ length out
    → (n ≡ place_after text 0 out) × (buffer ≡ buffer_after text 0 out) → Puts text n out buffer
put_at_start text out h p = placed_at_start (placed_one p) h

module _ (text out : List ℕ) {n : ℕ} {buffer : List ℕ} (p : Puts text n out buffer) where
  -- a text at the start of a buffer ends within it
  pub puts_within : (n ≤ length buffer) × (n ≡ length (take n buffer))
  puts_within = let l : n ≤ length buffer = omega (arith, ap length p.1, length-append text (drop (length text) out)) in (l, sym (length-take-le n buffer l))

  -- and is what the buffer begins with
  pub puts_taken : take n buffer ≡ text
  puts_taken = ap (take n) p.1 ∙ take_at text (drop (length text) out) n (sym p.0)

-- the first, of a text that is another's equal
pub puts_counted : {text answered : List ℕ} {n : ℕ} {buffer : List ℕ} (out : List ℕ) → text ≡ answered → Puts text n out buffer
    → ((n ≤ length buffer) × (n ≡ length (take n buffer))) × Puts answered n out buffer
puts_counted {text} {answered} {n} {buffer} out e p = (puts_within text out p, subst (λ (x : List ℕ). Puts x n out buffer) e p)
