-- A table with the empty cells of a list filled: byte by byte, as a right extension, and filled once more.
use mathlib.Core.Bool.{Bool, true, false, ◌&&◌, true≢false}
use mathlib.Core.List.{List, ◌∷◌, ◌++◌}
use mathlib.Core.Logic.{inl, inr}
use mathlib.Core.Path.{◌≡◌, refl, sym, ap, subst, ◌∙◌}
use Prim.Native.Nat.{ℕ, ◌+◌, ◌≤◌, ◌<◌}
use native.Mathlib.Omega.{arith}
use lib.Dec.{eqb, ltb}
use lib.ListN.{length}
use lib.Seq.{ext_get_or}
use borrow.Author.Tests.{eqb-true, ltb-true, ltb-false}
use Rattle.rows.specs.Rows.{Row}
use Rattle.rows.specs.Tables.{byte_at, empty, filled, byte_of, among, fills, filling, count}
use Rattle.rows.proofs.Systems.Systems.{Each, Solvable}
use Rattle.rows.proofs.Systems.Changed.{empty_byte, filled_byte}
use Rattle.rows.proofs.Tables.Among.{among_append, among_find, among_other}
use Rattle.rows.proofs.Tables.Counting.{one_if, count_sum, rewritten_length, rewritten_below, rewritten_above}
use Rattle.rows.proofs.Systems.Needs.{Closed, solution, needed}
use Rattle.rows.proofs.Tables.Extension.{Extends, Kept, extension_value}

module _ {C : Type 0} (position : C → ℕ) (t : List ℕ) (l : List C) (i : ℕ) where
  pub fills_full : empty (byte_at t i) ≡ false → fills position t l i ≡ false
  unfolding fills
  fills_full e = rw e

  pub fills_empty : empty (byte_at t i) ≡ true → fills position t l i ≡ among position l i
  unfolding fills
  fills_empty e = rw e

  pub fills_true : fills position t l i ≡ true → (empty (byte_at t i) ≡ true) × (among position l i ≡ true)
  unfolding fills
  fills_true h = go (empty (byte_at t i)) refl h
    where
      go : (b : Bool) → empty (byte_at t i) ≡ b → (b && among position l i) ≡ true → (empty (byte_at t i) ≡ true) × (among position l i ≡ true)
      go true e q = (e, q)
      go false e q = absurd (true≢false (sym q))

pub fills_other : {C : Type 0} (position : C → ℕ) (t : List ℕ) (c : C) (l : List C) (i : ℕ) → eqb (position c) i ≡ false → fills position t (c ∷ l) i ≡ fills position t l i
unfolding fills
fills_other position t c l i e = ap (λ (b : Bool). empty (byte_at t i) && b) (among_other position c l i e)

module _ {C : Type 0} {position : C → ℕ} {rows : C → Row C} {size : ℕ} {cell_at : ℕ → C} {Valid : C → Type 0} {rank : C → ℕ} {F : ℕ} (s : Solvable position rows size cell_at Valid rank F) where
  -- t with the empty cells of l filled, each with its solution by t's rows
  abbrev pub fill : List ℕ → List C → List ℕ
  fill t l = filling position size cell_at (solution s t) l t

  pub fill_length : (t : List ℕ) (l : List C) → length (fill t l) ≡ length t
  unfolding filling
  fill_length t l = rewritten_length size _ t

  pub fill_above : (t : List ℕ) (l : List C) (i : ℕ) → size ≤ i → byte_at (fill t l) i ≡ byte_at t i
  unfolding filling
  fill_above t l i h = rewritten_above size _ t i h

  pub fill_new : (t : List ℕ) (l : List C) → size ≤ length t → (i : ℕ) → i < size → fills position t l i ≡ true → byte_at (fill t l) i ≡ byte_of (solution s t (cell_at i))
  unfolding filling
  fill_new t l fits i h e = rewritten_below size _ t i h (omega arith) ∙ rw e

  pub fill_old : (t : List ℕ) (l : List C) → size ≤ length t → (i : ℕ) → fills position t l i ≡ false → byte_at (fill t l) i ≡ byte_at t i
  unfolding filling
  fill_old t l fits i e = go (ltb i size) refl
    where
      go : (b : Bool) → ltb i size ≡ b → byte_at (fill t l) i ≡ byte_at t i
      go true q = let h : i < size = ltb-true i size q in rewritten_below size _ t i h (omega arith) ∙ rw e
      go false q = fill_above t l i (ltb-false i size q)

  -- as many cells more are filled as the list fills
  pub fill_filled : (t : List ℕ) (l : List C) → size ≤ length t
      → count size (λ i. filled (byte_at t i)) + count size (fills position t l) ≡ count size (λ i. filled (byte_at (fill t l) i))
  fill_filled t l fits = count_sum size _ (fills position t l) _ (λ i h. go i h (fills position t l i) refl)
    where
      go : (i : ℕ) → i < size → (b : Bool) → fills position t l i ≡ b → one_if (filled (byte_at t i)) + one_if (fills position t l i) ≡ one_if (filled (byte_at (fill t l) i))
      go i h true e =
          rw (eqb-true (byte_at t i) 0 (fills_true position t l i e).0, e, fill_new t l fits i h e, filled_byte (solution s t (cell_at i)))
      go i h false e = rw (e, fill_old t l fits i e) (omega arith)

  -- lists that fill a position alike
  pub fill_same : (t : List ℕ) (l m : List C) → size ≤ length t → (i : ℕ) → fills position t l i ≡ fills position t m i → byte_at (fill t l) i ≡ byte_at (fill t m) i
  fill_same t l m fits i e = go (fills position t l i) (ltb i size) refl refl
    where
      go : (a b : Bool) → fills position t l i ≡ a → ltb i size ≡ b → byte_at (fill t l) i ≡ byte_at (fill t m) i
      go true true p q = let h : i < size = ltb-true i size q in fill_new t l fits i h p ∙ sym (fill_new t m fits i h (sym e ∙ p))
      go false true p q = fill_old t l fits i p ∙ sym (fill_old t m fits i (sym e ∙ p))
      go true false p q = fill_above t l i (ltb-false i size q) ∙ sym (fill_above t m i (ltb-false i size q))
      go false false p q = fill_old t l fits i p ∙ sym (fill_old t m fits i (sym e ∙ p))

  -- a list of valid cells that holds, with a cell, all that is needed for it
  pub record Whole (t : List ℕ) (l : List C) : Type 0 where
    pub valid : Each Valid l
    pub closed : Closed position Valid (needed s t) l

  pub fill_extends : (t : List ℕ) (l : List C) → size ≤ length t → Whole t l → Extends s t (fill t l)
  fill_extends t l fits w = record { kept = λ c vc. kept c vc (fills position t l (position c)) refl; closed = closed }
    where
      kept : (c : C) → Valid c → (b : Bool) → fills position t l (position c) ≡ b → Kept s t (fill t l) c
      kept c vc true e = inr ((fills_true position t l (position c) e).0, fill_new t l fits (position c) (s.layout.inside c vc) e ∙ ap (λ (d : C). byte_of (solution s t d)) (s.layout.back c vc))
      kept c vc false e = inl (fill_old t l fits (position c) e)

      held : (c : C) → Valid c → empty (byte_at t (position c)) ≡ true → empty (byte_at (fill t l) (position c)) ≡ false → (b : Bool) → fills position t l (position c) ≡ b → among position l (position c) ≡ true
      held c vc e f true q = (fills_true position t l (position c) q).1
      held c vc e f false q = absurd (true≢false (sym e ∙ ap empty (sym (fill_old t l fits (position c) q)) ∙ f))

      full : (i : ℕ) → among position l i ≡ true → i < size → (b : Bool) → empty (byte_at t i) ≡ b → empty (byte_at (fill t l) i) ≡ false
      full i m h true e = ap empty (fill_new t l fits i h (fills_empty position t l i e ∙ m)) ∙ empty_byte (solution s t (cell_at i))
      full i m h false e = ap empty (fill_old t l fits i (fills_full position t l i e)) ∙ e

      closed : (c : C) → Valid c → empty (byte_at t (position c)) ≡ true → empty (byte_at (fill t l) (position c)) ≡ false → (i : ℕ) → among position (needed s t c) i ≡ true → empty (byte_at (fill t l) i) ≡ false
      closed c vc e f i m =
          let here : among position l i ≡ true = w.closed.whole c vc (held c vc e f (fills position t l (position c)) refl) i m in
          let found : (d : C) × Valid d × (position d ≡ i) = among_find position l w.valid i here in
          full i here (subst (λ (j : ℕ). j < size) found.2 (s.layout.inside found.0 found.1)) (empty (byte_at t i)) refl

  -- filling once more fills what both lists hold; the counts add up
  module _ (t : List ℕ) (l : List C) (fits : size ≤ length t) (w : Whole t l) (m n : List C) (vm : Each Valid m)
      (agree : (i : ℕ) → empty (byte_at (fill t l) i) ≡ true → among position m i ≡ among position n i) where
    fills_sum : (i : ℕ) → i < size → one_if (fills position t l i) + one_if (fills position (fill t l) m i) ≡ one_if (fills position t (l ++ n) i)
    fills_sum i h = go (empty (byte_at t i)) (among position l i) refl refl
      where
        go : (a b : Bool) → empty (byte_at t i) ≡ a → among position l i ≡ b → one_if (fills position t l i) + one_if (fills position (fill t l) m i) ≡ one_if (fills position t (l ++ n) i)
        go false b p q =
            let old : fills position t l i ≡ false = fills_full position t l i p in
            rw (old, fills_full position (fill t l) m i (ap empty (fill_old t l fits i old) ∙ p), fills_full position t (l ++ n) i p)
        go true true p q =
            let new : fills position t l i ≡ true = fills_empty position t l i p ∙ q in
            rw (new, fills_full position (fill t l) m i (ap empty (fill_new t l fits i h new) ∙ empty_byte (solution s t (cell_at i))), fills_empty position t (l ++ n) i p, among_append position l n i, q)
        go true false p q =
            let old : fills position t l i ≡ false = fills_empty position t l i p ∙ q in
            let free : empty (byte_at (fill t l) i) ≡ true = ap empty (fill_old t l fits i old) ∙ p in
            rw (old, fills_empty position (fill t l) m i free, agree i free, fills_empty position t (l ++ n) i p, among_append position l n i, q) (omega arith)

    pub fill_count : count size (fills position t l) + count size (fills position (fill t l) m) ≡ count size (fills position t (l ++ n))
    fill_count = count_sum size (fills position t l) (fills position (fill t l) m) (fills position t (l ++ n)) fills_sum

    pub fill_fill : fill (fill t l) m ≡ fill t (l ++ n)
    fill_fill = ext_get_or 0 (fill (fill t l) m) (fill t (l ++ n)) (fill_length (fill t l) m ∙ fill_length t l ∙ sym (fill_length t (l ++ n))) (λ i h. at i (ltb i size) refl)
      where
        Byte : ℕ → Type 0
        Byte i = byte_at (fill (fill t l) m) i ≡ byte_at (fill t (l ++ n)) i

        still : size ≤ length (fill t l)
        still = subst (λ (k : ℕ). size ≤ k) (sym (fill_length t l)) fits

        below : (i : ℕ) → i < size → (a b c : Bool) → fills position t l i ≡ a → fills position (fill t l) m i ≡ b → fills position t (l ++ n) i ≡ c → one_if a + one_if b ≡ one_if c → Byte i
        below i h true true true p q r e = absurd (omega arith)
        below i h true true false p q r e = absurd (omega arith)
        below i h true false false p q r e = absurd (omega arith)
        below i h false true false p q r e = absurd (omega arith)
        below i h false false true p q r e = absurd (omega arith)
        below i h true false true p q r e = fill_old (fill t l) m still i q ∙ fill_new t l fits i h p ∙ sym (fill_new t (l ++ n) fits i h r)
        below i h false true true p q r e =
            let found : (d : C) × Valid d × (position d ≡ i) = among_find position m vm i (fills_true position (fill t l) m i q).1 in
            let cell : found.0 ≡ cell_at i = sym (s.layout.back found.0 found.1) ∙ ap cell_at found.2 in
            fill_new (fill t l) m still i h q ∙ ap byte_of (subst (λ (d : C). solution s (fill t l) d ≡ solution s t d) cell (extension_value s t (fill t l) (fill_extends t l fits w) found.0 found.1))
            ∙ sym (fill_new t (l ++ n) fits i h r)
        below i h false false false p q r e = fill_old (fill t l) m still i q ∙ fill_old t l fits i p ∙ sym (fill_old t (l ++ n) fits i r)

        at : (i : ℕ) → (b : Bool) → ltb i size ≡ b → Byte i
        at i true q =
            let h : i < size = ltb-true i size q in
            below i h (fills position t l i) (fills position (fill t l) m i) (fills position t (l ++ n) i) refl refl refl (fills_sum i h)
        at i false q = let h : size ≤ i = ltb-false i size q in fill_above (fill t l) m i h ∙ fill_above t l i h ∙ sym (fill_above t (l ++ n) i h)
