-- The bits of the mask are the meanings of the entries, and each is found from the bits below it.
use Prim.Native.Nat.{ℕ, zero, suc, ◌+◌, ◌^◌, ◌<◌, ◌≤◌, min}
use mathlib.Core.Path.{◌≡◌, refl, sym, ap, ap₂, ◌∙◌}
use mathlib.Core.Bool.{Bool, true, false, not, ◌&&◌, ◌||◌}
use mathlib.Core.List.{List}
use mathlib.Core.Logic.{◌⊎◌, inl, inr}
use native.Mathlib.Omega.{arith}
use native.Mathlib.Nat.{pow-suc, eq-or-lt_of_le, le_of_suc-le-suc, add-zero}
use Rattle.std.specs.Int.Bits.{bit_or, or_shifted_r}
use Rattle.std.proofs.Math.Pow.{shl_exact}
use Rattle.std.proofs.Common.{lit<, ◌*◌, ◌%◌}
use native.Mathlib.Numerals.{add-one}
use lib.Dec.{ltb, leb, eqb}
use borrow.Author.Tests.{ltb-true, ltb-false, ne_eqb}
use Rattle.sheet.specs.Bytes.{pick}
use Rattle.sheet.specs.Actions.{entry_count, entry_x, entry_y}
use Rattle.sheet.specs.Fields.{fields_at}
use Rattle.sheet.specs.declared.Fields.{Fields}
use Rattle.calculus.specs.Formulas.{ActionFormula}
use Rattle.calculus.specs.Meaning.{meets}
use Rattle.calculus.specs.Decode.{operand, EntrySort, unknown_entry, entry_sort, entry_formula, action_formula}
use Rattle.calculus.specs.MeetingMask.{bit, mask_up_to, meeting_mask, MeetingBits}
use Rattle.calculus.proofs.Decoding.Entries.{entry_of_kind}
use Rattle.calculus.proofs.Masks.Bits.{bit_high, bit_here, bit_low}

module _ (A : ℕ) (a : List ℕ) (action : ℕ) where
  mask_bound : (e : ℕ) → mask_up_to e A a action < 2 ^ e
  unfolding mask_up_to
  mask_bound zero = omega arith
  mask_bound (suc e) = go (meets A (action_formula a e) action) (mask_bound e)
    where
      go : (b : Bool) → mask_up_to e A a action < 2 ^ e → mask_up_to e A a action + pick b (2 ^ e) 0 < 2 ^ suc e
      go true h = omega (arith, pow-suc 2 e)
      go false h = omega (arith, pow-suc 2 e)

  -- bit x of the mask of more than x entries: whether the action meets entry x
  mask_bit : (e x : ℕ) → x < e → bit (mask_up_to e A a action) x ≡ meets A (action_formula a x) action
  unfolding mask_up_to
  mask_bit zero x l = absurd (omega arith)
  mask_bit (suc e) x l = cases (eq-or-lt_of_le (le_of_suc-le-suc l)) (mask_bit e x)
    where
      m : ℕ
      m = mask_up_to e A a action

      here : (b : Bool) → bit (m + pick b (2 ^ e) 0) e ≡ b
      here true = bit_here m e (mask_bound e)
      here false = ap (λ (w : ℕ). bit w e) (add-zero m) ∙ bit_high m e e (mask_bound e) (omega arith)

      under : x < e → (b : Bool) → bit (m + pick b (2 ^ e) 0) x ≡ bit m x
      under h true = bit_low m e x h
      under h false = ap (λ (w : ℕ). bit w x) (add-zero m)

      cases : (x ≡ e) ⊎ (x < e) → (x < e → bit m x ≡ meets A (action_formula a x) action)
          → bit (m + pick (meets A (action_formula a e) action) (2 ^ e) 0) x ≡ meets A (action_formula a x) action
      cases (inl q) rec =
          ap (bit (m + pick (meets A (action_formula a e) action) (2 ^ e) 0)) q ∙
          (here (meets A (action_formula a e) action) ∙ ap (λ (i : ℕ). meets A (action_formula a i) action) (sym q))
      cases (inr h) rec = under h (meets A (action_formula a e) action) ∙ rec h

  -- bit e of the mask, for each entry
  pub meeting_bit : (e : ℕ) → entry_count a ≤ 32 → e < entry_count a → bit (meeting_mask A a action) e ≡ meets A (action_formula a e) action
  unfolding meeting_mask
  meeting_bit e few l = mask_bit (min (entry_count a) 32) e (omega arith)

  -- an operand of entry e, from the mask of the entries before it
  operand_bit : (e x : ℕ) → bit (mask_up_to e A a action) x ≡ meets A (operand (action_formula a) x (ltb x e)) action
  unfolding meets
  operand_bit e x = go (ltb x e) refl
    where
      go : (b : Bool) → ltb x e ≡ b → bit (mask_up_to e A a action) x ≡ meets A (operand (action_formula a) x b) action
      go true q = mask_bit e x (ltb-true x e q)
      go false q = bit_high (mask_up_to e A a action) e x (mask_bound e) (ltb-false x e q)

-- What an entry of each kind is in the mask of the entries before it. The fields f are those of entry e, and m is that mask.
module _ (A : ℕ) (a : List ℕ) (e action : ℕ) (f : Fields) (is : f ≡ fields_at a e) where
  in_meaning_lem : (k : ℕ) → f.kind ≡ k → meets A (entry_formula (action_formula a) a e (entry_sort k)) action ≡ meets A (action_formula a e) action
  in_meaning_lem k q =
      ap (λ (α : ActionFormula). meets A α action) (sym (entry_of_kind a e k (sym (ap (λ (g : Fields). g.kind) is) ∙ q)))

  pub meets_false : f.kind ≡ 0 → false ≡ meets A (action_formula a e) action
  unfolding meets
  meets_false q = in_meaning_lem 0 q

  pub meets_true : f.kind ≡ 1 → ltb action A ≡ meets A (action_formula a e) action
  unfolding meets
  meets_true q = in_meaning_lem 1 q

  pub meets_action : f.kind ≡ 2 → eqb action f.x ≡ meets A (action_formula a e) action
  unfolding meets
  meets_action q = ap (λ (g : Fields). eqb action g.x) is ∙ in_meaning_lem 2 q

  pub meets_range : f.kind ≡ 6 → (leb f.x action && leb action f.y) ≡ meets A (action_formula a e) action
  unfolding meets
  meets_range q = ap (λ (g : Fields). leb g.x action && leb action g.y) is ∙ in_meaning_lem 6 q

  pub meets_unknown : 6 < f.kind → false ≡ meets A (action_formula a e) action
  unfolding meets
  meets_unknown l =
      let other = λ (k : ℕ) (h : k ≤ 6). ne_eqb f.kind k (λ q. omega arith) in
      let s : entry_sort f.kind ≡ unknown_entry =
      simp (other 0 (omega arith), other 1 (omega arith), other 2 (omega arith), other 3 (omega arith), other 4 (omega arith), other 5 (omega arith), other 6 (omega arith)) in
      sym (ap (λ (t : EntrySort). meets A (entry_formula (action_formula a) a e t) action) s) ∙ in_meaning_lem f.kind refl

  module _ (m : ℕ) (mask : m ≡ mask_up_to e A a action) where
    x_bit : bit m f.x ≡ meets A (operand (action_formula a) (entry_x a e) (ltb (entry_x a e) e)) action
    x_bit = ap₂ bit mask (ap (λ (g : Fields). g.x) is) ∙ operand_bit A a action e (entry_x a e)

    y_bit : bit m f.y ≡ meets A (operand (action_formula a) (entry_y a e) (ltb (entry_y a e) e)) action
    y_bit = ap₂ bit mask (ap (λ (g : Fields). g.y) is) ∙ operand_bit A a action e (entry_y a e)

    pub meets_or : f.kind ≡ 3 → (bit m f.x || bit m f.y) ≡ meets A (action_formula a e) action
    unfolding meets
    meets_or k = ap₂ ◌||◌ x_bit y_bit ∙ in_meaning_lem 3 k

    pub meets_and : f.kind ≡ 4 → (bit m f.x && bit m f.y) ≡ meets A (action_formula a e) action
    unfolding meets
    meets_and k = ap₂ ◌&&◌ x_bit y_bit ∙ in_meaning_lem 4 k

    pub meets_not : f.kind ≡ 5 → (ltb action A && not (bit m f.x)) ≡ meets A (action_formula a e) action
    unfolding meets
    meets_not k = ap (λ (b : Bool). ltb action A && not b) x_bit ∙ in_meaning_lem 5 k

-- the mask with one more entry
module _ (A : ℕ) (a : List ℕ) (action e m : ℕ) (mask : m ≡ mask_up_to e A a action) where
  pub mask_more : e < 32 → meets A (action_formula a e) action ≡ true → bit_or m (1 * 2 ^ e % 2 ^ 32) ≡ mask_up_to (e + 1) A a action
  unfolding mask_up_to
  mask_more l t =
      let bound : m < 2 ^ e = rw mask (mask_bound A a action e) in
      let shifted : 1 * 2 ^ e % 2 ^ 32 ≡ 1 * 2 ^ e = shl_exact 1 e 32 (lit< tt) (omega arith) in
      rw (shifted, or_shifted_r 1 e m bound, mask, add-one, t) (omega arith)

  pub mask_still : meets A (action_formula a e) action ≡ false → m ≡ mask_up_to (e + 1) A a action
  unfolding mask_up_to
  mask_still t = rw (add-one, t, mask) (sym (add-zero (mask_up_to e A a action)))

pub mask_start : (A : ℕ) (a : List ℕ) (action : ℕ) → 0 ≡ mask_up_to 0 A a action
unfolding mask_up_to
mask_start A a action = refl

pub meeting_bits : MeetingBits
meeting_bits A a action e few l = meeting_bit A a action e few l
