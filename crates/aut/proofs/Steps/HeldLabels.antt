-- The labels held, and their checksums.
use Rattle.std.proofs.Common.{◌≡◌, ◌≢◌, ℕ, zero, suc, ◌+◌, ◌<◌, ◌≤◌, Bool, true, false, Option, Some, None, not, ◌&&◌, cond, ltb, eqb, List, [], ◌∷◌, ◌++◌, length, take, drop, get_or, refl, sym, ap, subst, ◌∙◌, arith}
use native.Mathlib.Numerals.{add-one}
use Rattle.std.specs.Prelude.{unwrap_or}
use lib.ListN.{set, length-set, drop_of_length-le}
use lib.Seq.{take-suc-set, length-take-le, drop-cons, get_or-take}
use borrow.Author.Tests.{eq-eqb, lt-ltb, le-ltb, ltb-false}
use Rattle.std.specs.List.{position_or_len}
use Rattle.std.specs.Str.{bytes_eq}
use Rattle.std.proofs.lemmas.Slice.Eq.{bytes_eq-Decides}
use Rattle.std.proofs.lemmas.Bool.Decides.{same_from_decides}
use Rattle.sheet.specs.Bytes.{pick}
use Rattle.sheet.proofs.Checks.Checks.{and_parts}
use Rattle.text.specs.Comparing.{same_text}
use Rattle.text.proofs.Comparing.{same_exactly}
use Rattle.aut.specs.Plans.{label_number, with_label}
use Rattle.aut.specs.Internal.Held.{mixed, sum_from, sum_of, is_held, labels_in, Summed, Different, Holding}
use Rattle.aut.specs.declared.labels.Held.{Held}
use Rattle.aut.proofs.Plans.Labels.{number_bound}
use Rattle.aut.proofs.Plans.Different.{with_different}

-- ---- checksums

module _ (l : List ℕ) (sum i : ℕ) where
  pub sum_turn : i < length l → {n : ℕ} → n ≡ mixed sum (get_or l i 0) → sum_from n (drop (i + 1) l) ≡ sum_from sum (drop i l)
  unfolding sum_from
  sum_turn h e =
      ap (λ (m : ℕ). sum_from m (drop (i + 1) l)) e
      ∙ ap (λ (j : ℕ). sum_from (mixed sum (get_or l i 0)) (drop j l)) (add-one i)
      ∙ sym (ap (sum_from sum) (drop-cons l i 0 h))

  pub sum_end : length l ≤ i → sum ≡ sum_from sum (drop i l)
  unfolding sum_from
  sum_end h = sym (ap (sum_from sum) (drop_of_length-le l h))

-- ---- the labels

pub labels_length : (hs : List Held) → length (labels_in hs) ≡ length hs
unfolding labels_in
labels_length [] = refl
labels_length (h ∷ hs) = ap suc (labels_length hs)

label_at : (hs : List Held) (i : ℕ) (d : Held) → i < length hs → get_or (labels_in hs) i [] ≡ (get_or hs i d).label.now
unfolding labels_in
label_at [] i d b = absurd (omega arith)
label_at (h ∷ hs) zero d b = refl
label_at (h ∷ hs) (suc i) d b = label_at hs i d (omega arith)

labels_append : (hs : List Held) (h : Held) → labels_in (hs ++ h ∷ []) ≡ labels_in hs ++ h.label.now ∷ []
unfolding labels_in
labels_append [] h = refl
labels_append (k ∷ hs) h = ap (k.label.now ∷◌) (labels_append hs h)

summed_append : (hs : List Held) (h : Held) → Summed hs → h.sum ≡ sum_of h.label.now → Summed (hs ++ h ∷ [])
summed_append [] h s e = (e, tt)
summed_append (k ∷ hs) h s e = (s.0, summed_append hs h s.1 e)

-- ---- one that is held

-- the place that is found, or how many there are
pub found_or : (n many : ℕ) (r : Option ℕ) → n ≤ many → r ≡ cond (ltb n many) (Some n) None → unwrap_or r many ≡ n
found_or n many r h e = ap (λ (o : Option ℕ). unwrap_or o many) e ∙ go (ltb n many) refl
  where
    go : (b : Bool) → ltb n many ≡ b → unwrap_or (cond b (Some n) None) many ≡ n
    go true l = refl
    go false l = omega (arith, ltb-false n many l)

pub compared : (l k : List ℕ) (r : Bool) → r ≡ bytes_eq l k → r ≡ same_text k l
compared l k r e =
    same_from_decides r (same_text k l)
    (λ h. sym ((bytes_eq-Decides l k).0 (sym e ∙ h)), λ h. e ∙ (bytes_eq-Decides l k).1 (sym h))
    (λ h. (same_exactly k l).0 h, λ h. (same_exactly k l).1 h)

module _ (l : List ℕ) (sum : ℕ) (q : sum ≡ sum_of l) where
  -- the checksum decides nothing that the label does not
  same_held : (h : Held) → h.sum ≡ sum_of h.label.now → is_held l sum h ≡ same_text l h.label.now
  same_held h e = go (same_text l h.label.now) refl
    where
      go : (b : Bool) → same_text l h.label.now ≡ b → (eqb h.sum sum && b) ≡ b
      go true t = rw (eq-eqb h.sum sum (e ∙ ap sum_of (sym ((same_exactly l h.label.now).0 t)) ∙ sym q)) refl
      go false t = none (eqb h.sum sum)
        where
          none : (a : Bool) → (a && false) ≡ false
          none true = refl
          none false = refl

  pub number_found : (hs : List Held) → Summed hs → position_or_len (is_held l sum) hs ≡ label_number l (labels_in hs)
  unfolding label_number labels_in
  number_found [] s = refl
  number_found (h ∷ hs) s =
      ap (λ (b : Bool). cond (not b) (1 + position_or_len (is_held l sum) hs) 0) (same_held h s.0)
      ∙ go (same_text l h.label.now) (number_found hs s.1)
    where
      go : (b : Bool) → position_or_len (is_held l sum) hs ≡ label_number l (labels_in hs)
          → cond (not b) (1 + position_or_len (is_held l sum) hs) 0 ≡ pick b 0 (suc (label_number l (labels_in hs)))
      go true e = refl
      go false e = omega arith

  -- the label tried first is the one
  pub hint_right : (held : List Held) (count : ℕ) → Holding held count → (i : ℕ) (d : Held) → i < count
      → is_held l sum (get_or held i d) ≡ true → i ≡ label_number l (labels_in (take count held))
  hint_right held count g i d b t =
      let hs = take count held in
      let k : Held = get_or held i d in
      let n = length-take-le count held (omega (arith, g.array, g.within)) in
      let e : l ≡ get_or (labels_in hs) i [] =
      (same_exactly l k.label.now).0 (and_parts (eqb k.sum sum) (same_text l k.label.now) t).1
      ∙ sym (label_at hs i d (omega arith) ∙ ap (λ (h : Held). h.label.now) (get_or-take count held i d b)) in
      sym (ap (λ (m : List ℕ). label_number m (labels_in hs)) e ∙ g.different.at i (omega (arith, labels_length hs)))

-- ---- one label more

module _ (held : List Held) (count : ℕ) (g : Holding held count) where
  abbrev ks : List (List ℕ)
  ks = labels_in (take count held)

  pub many : length ks ≡ count
  many = labels_length (take count held) ∙ length-take-le count held (omega (arith, g.array, g.within))

  module _ (l : List ℕ) (n : ℕ) (e : n ≡ label_number l ks) where
    pub number_within : n ≤ count
    number_within = omega (arith, number_bound l ks, many)

    pub held_already : n ≢ count → ks ≡ with_label l ks
    held_already d = sym (rw (lt-ltb (label_number l ks) (length ks) (omega (arith, number_within, many))) refl)

    module _ (h : Held) (is : h.label.now ≡ l) (room : count < 256) (z : n ≡ count) where
      now_held : take (count + 1) (set held n h) ≡ take count held ++ h ∷ []
      now_held = (λ i. take (add-one count i) (set held (z i) h)) ∙ take-suc-set held count h (omega (arith, g.array))

      pub label_added : labels_in (take (count + 1) (set held n h)) ≡ with_label l ks
      label_added =
          ap labels_in now_held ∙ labels_append (take count held) h ∙ ap (λ (k : List ℕ). ks ++ k ∷ []) is
          ∙ sym (rw (le-ltb (label_number l ks) (length ks) (omega (arith, many))) refl)

      pub still_holding : h.sum ≡ sum_of h.label.now → Holding (set held n h) (count + 1)
      still_holding q =
          record {
            array = length-set held n h ∙ g.array;
            within = omega arith;
            summed = subst Summed (sym now_held) (summed_append (take count held) h g.summed q);
            different = subst Different (sym label_added) (with_different l ks g.different);
          }
