-- The entries of a tree as bytes of a body.
use Prim.Native.Nat.{ℕ, ◌+◌, ◌*◌, ◌≤◌}
use mathlib.Core.Path.{◌≡◌, refl, sym, ap, ◌∙◌}
use mathlib.Core.List.{List, [], ◌∷◌, ◌++◌, append_assoc}
use native.Mathlib.Omega.{arith}
use lib.ListN.{length, drop, length-append}
use lib.Seq.{get_or-drop, drop-drop, drop_at}
use Rattle.sheet.specs.Bytes.{byte}
use Rattle.sheet.specs.Actions.{entry_kind, entry_x, entry_y}
use Rattle.action_line.specs.Grammar.{Tree, false_tree, true_tree, action_tree, or_tree, and_tree, not_tree}
use Rattle.action_line.specs.Entries.{entry_total, last_entry, entries_from, body_of}
use Rattle.action_line.specs.Precedence.{or_kind, and_kind}

pub total_some : (t : Tree) → 1 ≤ entry_total t
unfolding entry_total
total_some false_tree = omega arith
total_some true_tree = omega arith
total_some (action_tree n) = omega arith
total_some (or_tree t u) = omega arith
total_some (and_tree t u) = omega arith
total_some (not_tree t) = omega arith

-- `or` and `and`: the bytes of both operands' entries and of the operator's, by its kind
abbrev pub pair_from : ℕ → ℕ → Tree → Tree → List ℕ
pair_from kind e t u =
    entries_from e t ++ (entries_from (e + entry_total t) u ++ (kind ∷ last_entry e t ∷ last_entry (e + entry_total t) u ∷ []))

pair_length : (kind e : ℕ) (t u : Tree) → length (entries_from e t) ≡ 3 * entry_total t
    → length (entries_from (e + entry_total t) u) ≡ 3 * entry_total u → length (pair_from kind e t u) ≡ 3 * (entry_total t + entry_total u + 1)
pair_length kind e t u i j = simp length-append (omega arith)

pub entries_length : (e : ℕ) (t : Tree) → length (entries_from e t) ≡ 3 * entry_total t
unfolding entries_from entry_total
entries_length e false_tree = refl
entries_length e true_tree = refl
entries_length e (action_tree n) = refl
entries_length e (or_tree t u) = pair_length or_kind e t u (entries_length e t) (entries_length (e + entry_total t) u)
entries_length e (and_tree t u) = pair_length and_kind e t u (entries_length e t) (entries_length (e + entry_total t) u)
entries_length e (not_tree t) = let i = entries_length e t in simp length-append (omega arith)

pub body_length : (t : Tree) → length (body_of t) ≡ 1 + 3 * entry_total t
unfolding body_of
body_length t = omega (arith, entries_length 0 t)

-- from entry e on the body goes on with these bytes
pub record BytesAt (a : List ℕ) (e : ℕ) (bytes : List ℕ) : Type 0 where
  pub behind : List ℕ
  pub begins : drop (1 + 3 * e) a ≡ bytes ++ behind

-- entry e has this kind, x and y
pub record EntryAt (a : List ℕ) (e k x y : ℕ) : Type 0 where
  pub kind_is : entry_kind a e ≡ k
  pub x_is : entry_x a e ≡ x
  pub y_is : entry_y a e ≡ y

module _ {a : List ℕ} where
  pub first_part : {e : ℕ} (p q : List ℕ) → BytesAt a e (p ++ q) → BytesAt a e p
  first_part p q b = record { behind = q ++ b.behind; begins = b.begins ∙ append_assoc p q b.behind }

  pub next_part : {e : ℕ} (n : ℕ) (p q : List ℕ) → length p ≡ 3 * n → BytesAt a e (p ++ q) → BytesAt a (e + n) q
  next_part {e} n p q l b =
      let i : 1 + 3 * (e + n) ≡ 1 + 3 * e + 3 * n = omega arith in
      record {
        behind = b.behind;
        begins =
            ap (λ (j : ℕ). drop j a) i ∙ sym (drop-drop (3 * n) (1 + 3 * e) a)
            ∙ ap (drop (3 * n)) (b.begins ∙ append_assoc p q b.behind) ∙ drop_at p (q ++ b.behind) (3 * n) l;
      }

  pub entry_at : {e k x y : ℕ} → BytesAt a e (k ∷ x ∷ y ∷ []) → EntryAt a e k x y
  entry_at {e} {k} {x} {y} b =
      record { kind_is = at 0 (omega arith); x_is = at 1 (omega arith); y_is = at 2 (omega arith) }
    where
      at : (i : ℕ) {j : ℕ} → j ≡ 1 + 3 * e + i → byte a j ≡ byte (k ∷ x ∷ y ∷ b.behind) i
      at i q = ap (byte a) q ∙ sym (get_or-drop (1 + 3 * e) a i 0) ∙ ap (λ (l : List ℕ). byte l i) b.begins
