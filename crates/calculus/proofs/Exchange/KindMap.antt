-- A change of kinds by any f: the kind of each node is mapped, every other byte of the rule and of the sheet stays, and the bodies stay where they are.
use Prim.Native.Nat.{ℕ, zero, suc, ◌+◌, ◌-◌, ◌*◌, ◌/◌, ◌%◌, ◌<◌, ◌≤◌}
use mathlib.Core.Path.{◌≡◌, refl, sym, ap, ap₂, subst, ◌∙◌}
use mathlib.Core.Bool.{Bool}
use mathlib.Core.List.{List, [], ◌∷◌, ◌++◌}
use native.Mathlib.Omega.{arith}
use native.Mathlib.Decide.{ℕ_discrete, dec_lt}
use native.Mathlib.Nat.{le_of_suc-le-suc}
use lib.ListN.{length, take, drop, length-append, length-drop, take-append-drop, get_or-append}
use lib.Seq.{length-take-le, take_all, drop_at, take-append-le, drop-append-le, get_or-append-add, get_or-drop}
use borrow.Author.Tests.{eq-eqb, ne_eqb}
use Rattle.sheet.specs.Bytes.{byte, word, slice, pick}
use Rattle.sheet.specs.Contents.{head_length, plan_length, actions_length, rule_length, actions_offset, rule_offset, plan_body, actions_body, rule_body}
use Rattle.sheet.specs.Rule.{node_count, node_kind, node_x, node_y}
use Rattle.calculus.specs.KindMap.{map_kind_byte, map_kinds_from, map_rule_kinds, map_sheet_kinds}

module _ (f : ℕ → ℕ → ℕ) where
  length_from : (i : ℕ) (bs : List ℕ) → length (map_kinds_from f i bs) ≡ length bs
  unfolding map_kinds_from
  length_from i [] = refl
  length_from i (b ∷ bs) = ap suc (length_from (suc i) bs)

  byte_inside : (i : ℕ) (bs : List ℕ) (j k : ℕ) → k ≡ i + j → j < length bs → byte (map_kinds_from f i bs) j ≡ map_kind_byte f k (byte bs j)
  unfolding map_kinds_from
  byte_inside i [] j k q l = absurd (omega arith)
  byte_inside i (b ∷ bs) zero k q l = let s : i ≡ k = omega arith in ap (λ (x : ℕ). map_kind_byte f x b) s
  byte_inside i (b ∷ bs) (suc j) k q l = byte_inside (suc i) bs j k (omega arith) (le_of_suc-le-suc l)

  byte_past : (i : ℕ) (bs : List ℕ) (j : ℕ) → length bs ≤ j → byte (map_kinds_from f i bs) j ≡ byte bs j
  unfolding map_kinds_from
  byte_past i [] j l = refl
  byte_past i (b ∷ bs) zero l = absurd (omega arith)
  byte_past i (b ∷ bs) (suc j) l = byte_past (suc i) bs j (le_of_suc-le-suc l)

  module _ (r : List ℕ) where
    pub mapped_rule_length : length (map_rule_kinds f r) ≡ length r
    mapped_rule_length = length_from 0 r

    -- a byte that is no kind
    pub mapped_other : (i : ℕ) → (i % 3 ≡ 1 → ⊥) → byte (map_rule_kinds f r) i ≡ byte r i
    mapped_other i h =
        elim (dec_lt i (length r)) [
          | yes l ↦ byte_inside 0 r i i (omega arith) l ∙ ap (λ (t : Bool). pick t (f (i / 3) (byte r i)) (byte r i)) (ne_eqb (i % 3) 1 h)
          | no l ↦ byte_past 0 r i (omega arith)
        ]

    pub mapped_count : node_count (map_rule_kinds f r) ≡ node_count r
    mapped_count = mapped_other 0 (λ q. omega arith)

    pub mapped_x : (n : ℕ) → node_x (map_rule_kinds f r) n ≡ node_x r n
    mapped_x n = mapped_other (2 + 3 * n) (λ q. omega arith)

    pub mapped_y : (n : ℕ) → node_y (map_rule_kinds f r) n ≡ node_y r n
    mapped_y n = mapped_other (3 + 3 * n) (λ q. omega arith)

    -- the kind of a node that the body has
    pub mapped_kind : (n : ℕ) → 1 + 3 * n < length r → node_kind (map_rule_kinds f r) n ≡ f n (node_kind r n)
    mapped_kind n l =
        let p : (1 + 3 * n) % 3 ≡ 1 = omega arith in
        let q : (1 + 3 * n) / 3 ≡ n = omega arith in
        byte_inside 0 r (1 + 3 * n) (1 + 3 * n) (omega arith) l ∙
        (ap (λ (t : Bool). pick t (f ((1 + 3 * n) / 3) (node_kind r n)) (node_kind r n)) (eq-eqb ((1 + 3 * n) % 3) 1 p) ∙ ap (λ (m : ℕ). f m (node_kind r n)) q)

    -- a byte that is no kind, or a kind that f keeps
    pub mapped_rule_same : (j : ℕ) → ((n : ℕ) → j ≡ 1 + 3 * n → j < length r → f n (byte r j) ≡ byte r j) → byte (map_rule_kinds f r) j ≡ byte r j
    mapped_rule_same j keeps =
        elim (ℕ_discrete (j % 3) 1) [
          | no h ↦ mapped_other j h
          | yes h ↦
              elim (dec_lt j (length r)) [
                | no l ↦ byte_past 0 r j (omega arith)
                | yes l ↦
                    let p : j ≡ 1 + 3 * (j / 3) = omega arith in
                    ap (byte (map_rule_kinds f r)) p ∙ (mapped_kind (j / 3) (omega arith) ∙ (ap (λ (i : ℕ). f (j / 3) (byte r i)) (sym p) ∙ keeps (j / 3) p l))
              ]
        ]

    -- What f keeps of every kind, the change keeps at every node: past its end a body reads 0 before and after.
    pub mapped_kinds : (Q : ℕ → ℕ → Type 0) → ((k : ℕ) → Q k k) → ((n k : ℕ) → Q k (f n k)) → (n : ℕ) → Q (node_kind r n) (node_kind (map_rule_kinds f r) n)
    mapped_kinds Q same keeps n =
        elim (dec_lt (1 + 3 * n) (length r)) [
          | yes l ↦ subst (Q (node_kind r n)) (sym (mapped_kind n l)) (keeps n (node_kind r n))
          | no l ↦ subst (Q (node_kind r n)) (sym (byte_past 0 r (1 + 3 * n) (omega arith))) (same (node_kind r n))
        ]

-- a part that ends within the front of a list
front : (h x : List ℕ) (offset size : ℕ) → offset + size ≤ length h → slice (h ++ x) offset size ≡ slice h offset size
front h x offset size l =
    ap (take size) (drop-append-le offset h x (omega arith)) ∙ take-append-le size (drop offset h) x (omega (arith, length-drop offset h))

module _ (f : ℕ → ℕ → ℕ) (s : List ℕ) (ends : length s ≡ rule_offset s + rule_length s) where
  head : List ℕ
  head = take (rule_offset s) s

  rest : List ℕ
  rest = drop (rule_offset s) s

  head_length_lem : length head ≡ rule_offset s
  unfolding head
  head_length_lem = length-take-le (rule_offset s) s (omega arith)

  pub mapped_length : length (map_sheet_kinds f s) ≡ length s
  unfolding map_sheet_kinds head rest
  mapped_length =
      length-append head (map_rule_kinds f rest) ∙ omega (arith, head_length_lem, mapped_rule_length f rest, length-drop (rule_offset s) s)

  -- the bytes before the rule body, and each part of them
  pub mapped_byte : (i : ℕ) → i < rule_offset s → byte (map_sheet_kinds f s) i ≡ byte s i
  unfolding map_sheet_kinds head rest
  mapped_byte i l =
      get_or-append head (map_rule_kinds f rest) 0 i (omega (arith, head_length_lem)) ∙
      (sym (get_or-append head rest 0 i (omega (arith, head_length_lem))) ∙ ap (λ (l : List ℕ). byte l i) (take-append-drop (rule_offset s) s))

  -- the bytes of the rule body
  in_rest : (j : ℕ) → byte (map_sheet_kinds f s) (rule_offset s + j) ≡ byte (map_rule_kinds f rest) j
  unfolding map_sheet_kinds head rest
  in_rest j = ap (λ (n : ℕ). byte (map_sheet_kinds f s) (n + j)) (sym head_length_lem) ∙ get_or-append-add head (map_rule_kinds f rest) j 0

  was_in_rest : (j : ℕ) → byte s (rule_offset s + j) ≡ byte rest j
  unfolding rest
  was_in_rest j = sym (get_or-drop (rule_offset s) s j 0)

  pub mapped_kind_byte : (n : ℕ) → rule_offset s + (1 + 3 * n) < length s
      → byte (map_sheet_kinds f s) (rule_offset s + (1 + 3 * n)) ≡ f n (byte s (rule_offset s + (1 + 3 * n)))
  unfolding rest
  mapped_kind_byte n l =
      in_rest (1 + 3 * n) ∙ (mapped_kind f rest n (omega (arith, length-drop (rule_offset s) s)) ∙ ap (f n) (sym (was_in_rest (1 + 3 * n))))

  -- a byte that is no kind, or a kind that f keeps
  pub mapped_same : (i : ℕ) → ((n : ℕ) → i ≡ rule_offset s + (1 + 3 * n) → i < length s → f n (byte s i) ≡ byte s i) → byte (map_sheet_kinds f s) i ≡ byte s i
  unfolding rest
  mapped_same i keeps =
      elim (dec_lt i (rule_offset s)) [
        | yes l ↦ mapped_byte i l
        | no h ↦
            let j : ℕ = i - rule_offset s in
            let q : i ≡ rule_offset s + j = omega arith in
            let was : byte s i ≡ byte rest j = ap (byte s) q ∙ was_in_rest j in
            ap (byte (map_sheet_kinds f s)) q ∙
            (in_rest j ∙
            (mapped_rule_same f rest j
            (λ n p l. ap (f n) (sym was) ∙ (keeps n (omega arith) (omega (arith, length-drop (rule_offset s) s)) ∙ was)) ∙ sym was))
      ]

  pub mapped_slice : (offset size : ℕ) → offset + size ≤ rule_offset s → slice (map_sheet_kinds f s) offset size ≡ slice s offset size
  unfolding map_sheet_kinds head rest
  mapped_slice offset size l =
      front head (map_rule_kinds f rest) offset size (omega (arith, head_length_lem)) ∙
      (sym (front head rest offset size (omega (arith, head_length_lem))) ∙ ap (λ (l : List ℕ). slice l offset size) (take-append-drop (rule_offset s) s))

  pub mapped_word : (i : ℕ) → i + 1 < rule_offset s → word (map_sheet_kinds f s) i ≡ word s i
  mapped_word i l = ap₂ (λ (x : ℕ) (y : ℕ). x + 256 * y) (mapped_byte i (omega arith)) (mapped_byte (i + 1) l)

  -- the lengths and offsets of the bodies
  pub mapped_plan_length : plan_length (map_sheet_kinds f s) ≡ plan_length s
  mapped_plan_length = mapped_word 5 (omega arith)

  pub mapped_actions_length : actions_length (map_sheet_kinds f s) ≡ actions_length s
  mapped_actions_length = mapped_word 10 (omega arith)

  pub mapped_rule_size : rule_length (map_sheet_kinds f s) ≡ rule_length s
  mapped_rule_size = mapped_word 15 (omega arith)

  pub mapped_actions_offset : actions_offset (map_sheet_kinds f s) ≡ actions_offset s
  mapped_actions_offset = ap (λ (n : ℕ). head_length + n) mapped_plan_length

  pub mapped_rule_offset : rule_offset (map_sheet_kinds f s) ≡ rule_offset s
  mapped_rule_offset = ap₂ (λ (x : ℕ) (y : ℕ). x + y) mapped_actions_offset mapped_actions_length

  -- the bodies
  pub mapped_plan : plan_body (map_sheet_kinds f s) ≡ plan_body s
  mapped_plan = ap (slice (map_sheet_kinds f s) head_length) mapped_plan_length ∙ mapped_slice head_length (plan_length s) (omega arith)

  pub mapped_actions : actions_body (map_sheet_kinds f s) ≡ actions_body s
  mapped_actions =
      ap₂ (slice (map_sheet_kinds f s)) mapped_actions_offset mapped_actions_length ∙ mapped_slice (actions_offset s) (actions_length s) (omega arith)

  rule_rest : rule_body s ≡ rest
  unfolding rest
  rule_rest = take_all (rule_length s) (drop (rule_offset s) s) (omega (arith, length-drop (rule_offset s) s))

  pub mapped_rule : rule_body (map_sheet_kinds f s) ≡ map_rule_kinds f (rule_body s)
  unfolding map_sheet_kinds head rest
  mapped_rule =
      ap₂ (slice (map_sheet_kinds f s)) mapped_rule_offset mapped_rule_size ∙
      (ap (take (rule_length s)) (drop_at head (map_rule_kinds f rest) (rule_offset s) head_length_lem) ∙
      (take_all (rule_length s) (map_rule_kinds f rest) (omega (arith, mapped_rule_length f rest, length-drop (rule_offset s) s)) ∙ ap (map_rule_kinds f) (sym rule_rest)))
