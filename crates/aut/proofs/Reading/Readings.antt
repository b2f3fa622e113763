-- A text is read as saying something exactly where it says that, and it says one thing at most.
use Prim.Native.Nat.{ℕ, zero, suc, ◌≤◌}
use mathlib.Core.Path.{◌≡◌, refl, sym, ap, ap₂, subst, ◌∙◌}
use mathlib.Core.Bool.{Bool, true, false, false≢true}
use mathlib.Core.List.{List, [], ◌∷◌, ◌++◌}
use native.Mathlib.Omega.{arith}
use lib.ListN.{length, length-append}
use Rattle.sheet.specs.Bytes.{pick}
use Rattle.aut.specs.Texts.{FirstLine, TransitionLine, ReadsLine, transition_line_rule}
use Rattle.aut.specs.Texts.{ReadsLines, no_line, one_more, ReadsText, whole_text}
use Rattle.aut.specs.Scanning.{Rest, failed, rest, after_line, line_of, after_first_line, case_rest, readable_from, lines_from}
use Rattle.aut.specs.Scanning.{text_readable, text_first_line, text_lines}
use Rattle.aut.specs.Reading.{unreadable, readable, reading_of, ReadingsExactly, OneReading}
use Rattle.aut.proofs.Reading.Pieces.{left}
use Rattle.aut.proofs.Reading.Lines.{line_back, line_on, first_back, first_on}

-- ---- the lines after the first

record LinesTaken (x : Rest) (xs : List TransitionLine) : Type 0 where
  bytes : List ℕ
  is : ReadsLines bytes xs
  whole : x ≡ rest bytes

lines_back : (f : ℕ) (x : Rest) → readable_from f x ≡ true → LinesTaken x (lines_from f x)
unfolding readable_from lines_from
lines_back zero failed h = absurd (false≢true h)
lines_back zero (rest []) h = record { bytes = []; is = no_line; whole = refl }
lines_back zero (rest (b ∷ s)) h = absurd (false≢true h)
lines_back (suc f) failed h = absurd (false≢true h)
lines_back (suc f) (rest []) h = record { bytes = []; is = no_line; whole = refl }
lines_back (suc f) (rest (b ∷ s)) h =
    let k = lines_back f (after_line (rest (b ∷ s))) h in
    let l = line_back (rest (b ∷ s)) k.whole in
    record { bytes = l.0 ++ k.bytes; is = one_more l.1.is k.is; whole = l.1.whole }

-- a line is not empty
line_some : {w : List ℕ} {x : TransitionLine} → ReadsLine w x
    → ((s : List ℕ) (A : Type 0) (a b c : A) → case_rest (rest (w ++ s)) a b c ≡ c) × (1 ≤ length w)
line_some (transition_line_rule df sg al sh dt) = (λ s A a b c. refl, omega arith)

lines_on : {s : List ℕ} {xs : List TransitionLine} → ReadsLines s xs → (f : ℕ) → length s ≤ f
    → (readable_from f (rest s) ≡ true) × (lines_from f (rest s) ≡ xs)
unfolding readable_from lines_from
lines_on no_line zero h = (refl, refl)
lines_on no_line (suc f) h = (refl, refl)
lines_on (one_more {line = a} {others = s} l r) zero h = absurd (omega (arith, length-append a s, (line_some l).1))
lines_on (one_more {line = a} {others = s} l r) (suc f) h =
    let more = (line_some l).0 s in
    let n = line_on l s in
    let k = lines_on r f (omega (arith, length-append a s, (line_some l).1)) in (
      more Bool false true (readable_from f (after_line (rest (a ++ s)))) ∙ ap (readable_from f) n.0 ∙ k.0,
      more (List TransitionLine) [] [] (line_of (rest (a ++ s)) ∷ lines_from f (after_line (rest (a ++ s))))
          ∙ ap₂ ◌∷◌ n.1 (ap (lines_from f) n.0 ∙ k.1),
    )

-- ---- the text

text_on_lem : {s : List ℕ} {h : FirstLine} {xs : List TransitionLine} → ReadsText s h xs
    → (text_readable s ≡ true) × (text_first_line s ≡ h) × (text_lines s ≡ xs)
unfolding text_readable
text_on_lem (whole_text {line = a} {others = s} f l) =
    let n = first_on f s in
    let k = lines_on l (length (a ++ s)) (omega (arith, length-append a s)) in
    (ap (readable_from (length (a ++ s))) n.0 ∙ k.0, n.1, ap (lines_from (length (a ++ s))) n.0 ∙ k.1)

text_back : (s : List ℕ) → text_readable s ≡ true → ReadsText s (text_first_line s) (text_lines s)
unfolding text_readable
text_back s h =
    let k = lines_back (length s) (after_first_line (rest s)) h in
    let f = first_back (rest s) k.whole in
    subst (λ (x : List ℕ). ReadsText x (text_first_line s) (text_lines s)) (sym (ap left f.1.whole)) (whole_text f.1.is k.is)

read_is : (s : List ℕ) (h : FirstLine) (xs : List TransitionLine) → reading_of s ≡ readable h xs → ReadsText s h xs
unfolding reading_of
read_is s h xs e = go (text_readable s) refl e
  where
    go : (b : Bool) → text_readable s ≡ b → pick b (readable (text_first_line s) (text_lines s)) unreadable ≡ readable h xs → ReadsText s h xs
    go true q e =
        let first : text_first_line s ≡ h = cc in
        let lines : text_lines s ≡ xs = cc in
        rw (← first, ← lines) (text_back s q)
    go false q e = let z : ◌≡◌ {A = ℕ} 0 1 = cc in absurd (omega arith)

is_read : (s : List ℕ) (h : FirstLine) (xs : List TransitionLine) → ReadsText s h xs → reading_of s ≡ readable h xs
unfolding reading_of
is_read s h xs r = let k = text_on_lem r in rw k.0 (ap₂ readable k.1 k.2)

pub readings_exactly : ReadingsExactly
readings_exactly s h xs = (read_is s h xs, is_read s h xs)

pub one_reading : OneReading
one_reading s h k xs ys t u = let p = text_on_lem t in let q = text_on_lem u in (sym p.1 ∙ q.1, sym p.2 ∙ q.2)
