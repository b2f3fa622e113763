-- Labels and their numbers.
use Prim.Native.Nat.{ℕ, suc, ◌<◌, ◌≤◌}
use mathlib.Core.Path.{◌≡◌, refl, sym, ap, subst, ◌∙◌}
use mathlib.Core.Bool.{Bool, true, false}
use mathlib.Core.List.{List, [], ◌∷◌, ◌++◌, Memᴰ}
use mathlib.Core.Logic.{◌⊎◌, inl, inr, ◌≢◌}
use native.Mathlib.Omega.{arith}
use native.Mathlib.Decide.{dec_lt}
use lib.Dec.{ltb}
use lib.ListN.{length, get_or, length-append}
use borrow.Author.Tests.{ltb-true, ltb-false}
use Rattle.text.specs.Comparing.{same_text}
use Rattle.text.proofs.Comparing.{same_exactly}
use Rattle.sheet.specs.Bytes.{pick}
use Rattle.aut.specs.Texts.{TransitionLine}
use Rattle.aut.specs.Plans.{label_number, with_label, labels_from, labels_of, LabelsNumbered}

-- ---- the number of a label

-- l is one of the labels
abbrev Listed : List ℕ → List (List ℕ) → Type 0
Listed l ks = label_number l ks < length ks

pub number_bound : (l : List ℕ) (ks : List (List ℕ)) → label_number l ks ≤ length ks
unfolding label_number
number_bound l [] = omega arith
number_bound l (k ∷ ks) = by (same_text l k) (number_bound l ks)
  where
    by : (b : Bool) → label_number l ks ≤ length ks → pick b 0 (suc (label_number l ks)) ≤ suc (length ks)
    by true h = omega arith
    by false h = omega arith

-- the label of that number
label_at : (l : List ℕ) (ks : List (List ℕ)) → Listed l ks → get_or ks (label_number l ks) [] ≡ l
unfolding label_number
label_at l [] h = absurd (omega arith)
label_at l (k ∷ ks) h = by (same_text l k) refl h (label_at l ks)
  where
    by : (b : Bool) → same_text l k ≡ b → pick b 0 (suc (label_number l ks)) < suc (length ks)
        → (Listed l ks → get_or ks (label_number l ks) [] ≡ l) → get_or (k ∷ ks) (pick b 0 (suc (label_number l ks))) [] ≡ l
    by true q m rest = sym ((same_exactly l k).0 q)
    by false q m rest = rest (omega arith)

same_label_lem : (l m : List ℕ) (ks : List (List ℕ)) → Listed l ks → Listed m ks → label_number l ks ≡ label_number m ks → l ≡ m
same_label_lem l m ks h k q = sym (label_at l ks h) ∙ ap (λ (i : ℕ). get_or ks i []) q ∙ label_at m ks k

pub number_kept : (l : List ℕ) (ks ms : List (List ℕ)) → Listed l ks → label_number l (ks ++ ms) ≡ label_number l ks
unfolding label_number
number_kept l [] ms h = absurd (omega arith)
number_kept l (k ∷ ks) ms h = by (same_text l k) h (number_kept l ks ms)
  where
    by : (b : Bool) → pick b 0 (suc (label_number l ks)) < suc (length ks)
        → (Listed l ks → label_number l (ks ++ ms) ≡ label_number l ks)
        → pick b 0 (suc (label_number l (ks ++ ms))) ≡ pick b 0 (suc (label_number l ks))
    by true m rest = refl
    by false m rest = ap suc (rest (omega arith))

-- a label that is none of ks comes last
pub number_last : (l : List ℕ) (ks : List (List ℕ)) → length ks ≤ label_number l ks → label_number l (ks ++ l ∷ []) ≡ length ks
unfolding label_number
number_last l [] h = rw ((same_exactly l l).1 refl) refl
number_last l (k ∷ ks) h = by (same_text l k) h (number_last l ks)
  where
    by : (b : Bool) → suc (length ks) ≤ pick b 0 (suc (label_number l ks))
        → (length ks ≤ label_number l ks → label_number l (ks ++ l ∷ []) ≡ length ks)
        → pick b 0 (suc (label_number l (ks ++ l ∷ []))) ≡ suc (length ks)
    by true m rest = absurd (omega arith)
    by false m rest = ap suc (rest (omega arith))

-- ---- the labels with one more line's

module _ (l : List ℕ) (ks : List (List ℕ)) where
  -- its number is the one that it had among those before
  own_number : (label_number l (with_label l ks) ≡ label_number l ks) × Listed l (with_label l ks)
  own_number = by (ltb (label_number l ks) (length ks)) refl
    where
      by : (b : Bool) → ltb (label_number l ks) (length ks) ≡ b
          → (label_number l (pick b ks (ks ++ l ∷ [])) ≡ label_number l ks) × Listed l (pick b ks (ks ++ l ∷ []))
      by true q = (refl, ltb-true _ _ q)
      by false q =
          let h = ltb-false (label_number l ks) (length ks) q in
          let e = number_last l ks h in
          (e ∙ omega (arith, number_bound l ks), omega (arith, length-append ks (l ∷ [])))

  other_number : (m : List ℕ) → Listed m ks → (label_number m (with_label l ks) ≡ label_number m ks) × Listed m (with_label l ks)
  other_number m h = by (ltb (label_number l ks) (length ks))
    where
      by : (b : Bool) → (label_number m (pick b ks (ks ++ l ∷ [])) ≡ label_number m ks) × Listed m (pick b ks (ks ++ l ∷ []))
      by true = (refl, h)
      by false = let e = number_kept m ks (l ∷ []) h in (e, omega (arith, length-append ks (l ∷ [])))

  with_longer : length ks ≤ length (with_label l ks)
  with_longer = by (ltb (label_number l ks) (length ks))
    where
      by : (b : Bool) → length ks ≤ length (pick b ks (ks ++ l ∷ []))
      by true = omega arith
      by false = omega (arith, length-append ks (l ∷ []))

-- ---- the labels of lines

-- a label keeps its number
labels_keep : (m : List ℕ) (ks : List (List ℕ)) (xs : List TransitionLine) → Listed m ks
    → (label_number m (labels_from ks xs) ≡ label_number m ks) × Listed m (labels_from ks xs)
unfolding labels_from
labels_keep m ks [] h = (refl, h)
labels_keep m ks (x ∷ xs) h =
    let o = other_number x.label ks m h in
    let r = labels_keep m (with_label x.label ks) xs o.1 in
    (r.0 ∙ o.0, r.1)

pub labels_longer : (ks : List (List ℕ)) (xs : List TransitionLine) → length ks ≤ length (labels_from ks xs)
unfolding labels_from
labels_longer ks [] = omega arith
labels_longer ks (x ∷ xs) = omega (arith, with_longer x.label ks, labels_longer (with_label x.label ks) xs)

-- the label of the next line: its number in the end is the one that it has now
pub labels_next : (x : TransitionLine) (ks : List (List ℕ)) (xs : List TransitionLine)
    → (label_number x.label (labels_from ks (x ∷ xs)) ≡ label_number x.label ks)
    × (label_number x.label (labels_from ks (x ∷ xs)) < length (labels_from ks (x ∷ xs)))
unfolding labels_from
labels_next x ks xs =
    let o = own_number x.label ks in
    let r = labels_keep x.label (with_label x.label ks) xs o.1 in
    (r.0 ∙ o.0, r.1)

-- every line's label is one of them
line_listed : {x : TransitionLine} (ks : List (List ℕ)) (xs : List TransitionLine) → Memᴰ x xs → Listed x.label (labels_from ks xs)
unfolding labels_from
line_listed ks xs (Memᴰ.head {x = y} {xs = ys} q) =
    subst (λ (z : TransitionLine). Listed z.label (labels_from ks (y ∷ ys))) (sym q) (labels_next y ks ys).1
line_listed ks xs (Memᴰ.tail {x = y} {xs = ys} m) = line_listed (with_label y.label ks) ys m

-- the label of number i is some line's
abbrev LineNumbered : List TransitionLine → List (List ℕ) → ℕ → Type 0
LineNumbered xs ks i = (x : TransitionLine) × Memᴰ x xs × (label_number x.label ks ≡ i)

some_line : (ks : List (List ℕ)) (xs : List TransitionLine) (i : ℕ) → i < length (labels_from ks xs)
    → (i < length ks) ⊎ LineNumbered xs (labels_from ks xs) i
unfolding labels_from
some_line ks [] i h = inl h
some_line ks (x ∷ xs) i h = by (ltb (label_number x.label ks) (length ks)) refl (some_line (with_label x.label ks) xs i h)
  where
    by : (b : Bool) → ltb (label_number x.label ks) (length ks) ≡ b
        → (i < length (pick b ks (ks ++ x.label ∷ []))) ⊎ LineNumbered xs (labels_from (with_label x.label ks) xs) i
        → (i < length ks) ⊎ LineNumbered (x ∷ xs) (labels_from (with_label x.label ks) xs) i
    by b q (inr r) = inr (r.0, Memᴰ.tail r.1, r.2)
    by true q (inl m) = inl m
    by false q (inl m) =
        elim (dec_lt i (length ks)) [
          | yes l ↦ inl l
          | no n ↦
              let o = ltb-false (label_number x.label ks) (length ks) q in
              let z : label_number x.label ks ≡ i =
              omega (arith, length-append ks (x.label ∷ []), number_bound x.label ks, o) in
              inr (x, Memᴰ.head refl, (labels_next x ks xs).0 ∙ z)
        ]

line_of : (xs : List TransitionLine) (i : ℕ) → i < length (labels_of xs) → LineNumbered xs (labels_of xs) i
line_of xs i h = by (some_line [] xs i h)
  where
    by : (i < 0) ⊎ LineNumbered xs (labels_of xs) i → LineNumbered xs (labels_of xs) i
    by (inl l) = absurd (omega arith)
    by (inr r) = r

-- ---- first appearance

labels_append : (ks : List (List ℕ)) (ys zs : List TransitionLine) → labels_from ks (ys ++ zs) ≡ labels_from (labels_from ks ys) zs
unfolding labels_from
labels_append ks [] zs = refl
labels_append ks (y ∷ ys) zs = labels_append (with_label y.label ks) ys zs

-- a label that no line has
unlisted_number : (ys : List TransitionLine) (l : List ℕ) → ((y : TransitionLine) → Memᴰ y ys → y.label ≢ l)
    → label_number l (labels_of ys) ≡ length (labels_of ys)
unlisted_number ys l none =
    elim (dec_lt (label_number l (labels_of ys)) (length (labels_of ys))) [
      | yes h ↦
          let r = line_of ys (label_number l (labels_of ys)) h in
          absurd (none r.0 r.1 (same_label_lem r.0.label l (labels_of ys) (line_listed [] ys r.1) h r.2))
      | no h ↦ omega (arith, number_bound l (labels_of ys))
    ]

pub labels_numbered : (xs : List TransitionLine) → LabelsNumbered xs
labels_numbered xs =
    record {
      first_appearance = λ ys x zs q none.
          ap (λ (us : List TransitionLine). label_number x.label (labels_of us)) q
          ∙ ap (label_number x.label) (labels_append [] ys (x ∷ zs))
          ∙ (labels_next x (labels_of ys) zs).0 ∙ unlisted_number ys x.label none;
      same_number = λ x y m n. (
        same_label_lem x.label y.label (labels_of xs) (line_listed [] xs m) (line_listed [] xs n),
        ap (λ (l : List ℕ). label_number l (labels_of xs)),
      );
      number_below = λ x m. line_listed [] xs m;
      number_used = line_of xs;
    }
