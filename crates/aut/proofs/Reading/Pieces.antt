-- Each piece of a line: what the scan takes is the piece, and the scan takes the piece where it stands.
use Prim.Native.Nat.{ℕ}
use mathlib.Core.Path.{◌≡◌, refl, sym, ap, ◌∙◌}
use mathlib.Core.Bool.{Bool, true, false, not, false≢true, true≢false}
use mathlib.Core.List.{List, [], ◌∷◌, ◌++◌}
use native.Mathlib.Omega.{arith}
use lib.Dec.{eqb}
use borrow.Author.Tests.{eqb-true, ne_eqb, not-true}
use Rattle.text.specs.Numerals.{is_digit, all_digits, is_decimal}
use Rattle.text.proofs.Numerals.{digit_bounds}
use Rattle.sheet.specs.Bytes.{pick}
use Rattle.sheet.proofs.Checks.Checks.{and_parts}
use Rattle.aut.specs.Texts.{space_byte, ShownSpace, missing, shown, is_label_byte, All}
use Rattle.aut.specs.Scanning.{Rest, failed, rest, take_while, drop_while}
use Rattle.aut.specs.Scanning.{after_byte, after_space, after_numeral, numeral_of, after_label, label_of}

abbrev pub left : Rest → List ℕ
left failed = []
left (rest s) = s

abbrev has_failed : Rest → Bool
has_failed failed = true
has_failed (rest s) = false

pub failed_not : {s : List ℕ} → failed ≡ rest s → ⊥
failed_not h = true≢false (ap has_failed h)

-- ---- numerals

abbrev pub IsNumeral : List ℕ → Type 0
IsNumeral w = is_decimal w ≡ true

-- a `0` alone, or a digit that is not 0 and then digits
data Numeral : List ℕ → Type 0 where
  zero_alone : Numeral (48 ∷ [])
  positive : {d : ℕ} {ds : List ℕ} → is_digit d ≡ true → eqb d 48 ≡ false → All is_digit ds → Numeral (d ∷ ds)

all_digits_lem : (ds : List ℕ) → all_digits ds ≡ true → All is_digit ds
unfolding all_digits
all_digits_lem [] q = tt
all_digits_lem (b ∷ ds) q = let k = and_parts (is_digit b) (all_digits ds) q in (k.0, all_digits_lem ds k.1)

digits_all : (ds : List ℕ) → All is_digit ds → all_digits ds ≡ true
unfolding all_digits
digits_all [] a = refl
digits_all (b ∷ ds) a = rw a.0 (digits_all ds a.1)

numeral_shape : (w : List ℕ) → IsNumeral w → Numeral w
numeral_shape [] q = absurd (false≢true q)
numeral_shape (b ∷ []) q = go (eqb b 48) refl
  where
    go : (p : Bool) → eqb b 48 ≡ p → Numeral (b ∷ [])
    go true e = rw (eqb-true b 48 e) zero_alone
    go false e = positive q e tt
numeral_shape (b ∷ c ∷ ds) q =
    let k = and_parts (not (eqb b 48)) (all_digits (b ∷ c ∷ ds)) q in
    let a = all_digits_lem (b ∷ c ∷ ds) k.1 in
    positive a.0 (not-true (eqb b 48) k.0) a.1

positive_numeral : (d : ℕ) (ds : List ℕ) → is_digit d ≡ true → eqb d 48 ≡ false → All is_digit ds → IsNumeral (d ∷ ds)
positive_numeral d [] i e a = i
positive_numeral d (c ∷ ds) i e a = rw e (digits_all (d ∷ c ∷ ds) (i, a))

-- ---- what is taken is the piece

pub byte_back : (b : ℕ) (x : Rest) {s : List ℕ} → after_byte b x ≡ rest s → x ≡ rest (b ∷ s)
byte_back b failed h = absurd (failed_not h)
byte_back b (rest []) h = absurd (failed_not h)
byte_back b (rest (c ∷ t)) {s} h = go (eqb c b) refl h
  where
    go : (p : Bool) → eqb c b ≡ p → pick p (rest t) failed ≡ rest s → rest (c ∷ t) ≡ rest (b ∷ s)
    go true e k = λ i. rest (eqb-true c b e i ∷ ap left k i)
    go false e k = absurd (failed_not k)

-- w is at the front of x, and s follows
pub record Took (P : List ℕ → Type 0) (x : Rest) (w s : List ℕ) : Type 0 where
  pub is : P w
  pub whole : x ≡ rest (w ++ s)

pub space_back : (x : Rest) {s : List ℕ} → after_space x ≡ rest s → (g : List ℕ) × Took ShownSpace x g s
space_back failed h = absurd (failed_not h)
space_back (rest []) h = ([], record { is = missing; whole = h })
space_back (rest (c ∷ t)) {s} h = go (eqb c space_byte) refl h
  where
    go : (p : Bool) → eqb c space_byte ≡ p → pick p (rest t) (rest (c ∷ t)) ≡ rest s
        → (g : List ℕ) × Took ShownSpace (rest (c ∷ t)) g s
    go true e k = (space_byte ∷ [], record { is = shown; whole = λ i. rest (eqb-true c space_byte e i ∷ ap left k i) })
    go false e k = ([], record { is = missing; whole = k })

while_all : (test : ℕ → Bool) (s : List ℕ) → All test (take_while test s) × (take_while test s ++ drop_while test s ≡ s)
unfolding take_while drop_while
while_all test [] = (tt, refl)
while_all test (b ∷ s) = go (test b) refl (while_all test s)
  where
    go : (q : Bool) → test b ≡ q → All test (take_while test s) × (take_while test s ++ drop_while test s ≡ s)
        → All test (pick q (b ∷ take_while test s) [])
        × (pick q (b ∷ take_while test s) [] ++ pick q (drop_while test s) (b ∷ s) ≡ b ∷ s)
    go true e k = ((e, k.0), ap (b ∷◌) k.1)
    go false e k = (tt, refl)

pub numeral_back : (x : Rest) {s : List ℕ} → after_numeral x ≡ rest s → Took IsNumeral x (numeral_of x) s
numeral_back failed h = absurd (failed_not h)
numeral_back (rest []) h = absurd (failed_not h)
numeral_back (rest (c ∷ t)) {s} h = go (eqb c 48) refl (is_digit c) refl h
  where
    go : (p : Bool) → eqb c 48 ≡ p → (q : Bool) → is_digit c ≡ q
        → pick p (rest t) (pick q (rest (drop_while is_digit t)) failed) ≡ rest s
        → Took IsNumeral (rest (c ∷ t)) (pick p (c ∷ []) (c ∷ take_while is_digit t)) s
    go true e q f k = record { is = rw (eqb-true c 48 e); whole = λ i. rest (c ∷ ap left k i) }
    go false e true f k =
        let a = while_all is_digit t in
        record {
          is = positive_numeral c (take_while is_digit t) f e a.0;
          whole = ap (λ (l : List ℕ). rest (c ∷ l)) (sym a.1 ∙ ap (take_while is_digit t ++◌) (ap left k));
        }
    go false e false f k = absurd (failed_not k)

pub label_back : (x : Rest) {s : List ℕ} → after_label x ≡ rest s → Took (All is_label_byte) x (label_of x) s
label_back failed h = absurd (failed_not h)
label_back (rest t) h =
    let a = while_all is_label_byte t in
    record { is = a.0; whole = ap rest (sym a.1 ∙ ap (take_while is_label_byte t ++◌) (ap left h)) }

-- ---- the piece is taken

-- the bytes end, or go on with one that does not pass
abbrev pub Stops : (ℕ → Bool) → List ℕ → Type 0
Stops test [] = Unit {0}
Stops test (b ∷ s) = test b ≡ false

while_stops : (test : ℕ → Bool) (w s : List ℕ) → All test w → Stops test s
    → (take_while test (w ++ s) ≡ w) × (drop_while test (w ++ s) ≡ s)
unfolding take_while drop_while
while_stops test [] [] a h = (refl, refl)
while_stops test [] (b ∷ s) a h = (rw h refl, rw h refl)
while_stops test (b ∷ w) s a h =
    let k = while_stops test w s a.1 h in (rw a.0 (ap (b ∷◌) k.0), rw a.0 k.1)

pub numeral_on : (w s : List ℕ) → IsNumeral w → Stops is_digit s
    → (after_numeral (rest (w ++ s)) ≡ rest s) × (numeral_of (rest (w ++ s)) ≡ w)
numeral_on w s n h = go w (numeral_shape w n)
  where
    go : (w : List ℕ) → Numeral w → (after_numeral (rest (w ++ s)) ≡ rest s) × (numeral_of (rest (w ++ s)) ≡ w)
    go _ zero_alone = (refl, refl)
    go _ (positive {d = d} {ds = ds} i e a) =
        let k = while_stops is_digit ds s a h in (rw (e, i) (ap rest k.1), rw e (ap (d ∷◌) k.0))

pub label_on : (w s : List ℕ) → All is_label_byte w → Stops is_label_byte s
    → (after_label (rest (w ++ s)) ≡ rest s) × (label_of (rest (w ++ s)) ≡ w)
label_on w s a h = let k = while_stops is_label_byte w s a h in (ap rest k.1, k.0)

-- what follows does not begin with a space
abbrev pub NoSpace : List ℕ → Type 0
NoSpace [] = Unit {0}
NoSpace (b ∷ s) = eqb b space_byte ≡ false

pub space_on : {g : List ℕ} → ShownSpace g → (s : List ℕ) → NoSpace s → after_space (rest (g ++ s)) ≡ rest s
space_on missing [] u = refl
space_on missing (b ∷ s) u = rw u refl
space_on shown s u = refl

pub numeral_no_space : (w s : List ℕ) → IsNumeral w → NoSpace (w ++ s)
numeral_no_space w s n = go w (numeral_shape w n)
  where
    go : (w : List ℕ) → Numeral w → NoSpace (w ++ s)
    go _ zero_alone = refl
    go _ (positive {d = d} i e a) = let k = digit_bounds d i in ne_eqb d space_byte (λ q. omega arith)
