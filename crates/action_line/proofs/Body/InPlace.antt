-- What the second pass puts into the output are the bytes of the tree's entries; what lies behind them stays.
use Prim.Native.Nat.{ℕ, suc, ◌+◌, ◌-◌, ◌*◌, ◌≤◌}
use mathlib.Core.Path.{◌≡◌, refl, ap, ap₂, ◌∙◌}
use mathlib.Core.List.{List, [], ◌∷◌, ◌++◌, append_assoc}
use native.Mathlib.Omega.{arith}
use lib.ListN.{length, drop, set, length-append, length-drop}
use lib.Seq.{sets, sets-eq, take_at, drop-append-add, drop-drop}
use Rattle.action_line.specs.Grammar.{Tree, false_tree, true_tree, action_tree, or_tree, and_tree, not_tree}
use Rattle.action_line.specs.Entries.{entry_total, last_entry, entries_from, body_of}
use Rattle.action_line.specs.Precedence.{or_kind, and_kind, not_kind}
use Rattle.action_line.specs.Internal.Building.{Made, made, put_at, put, entries_in_place, built_body}
use Rattle.action_line.proofs.Reading.Building.{after}
use Rattle.action_line.proofs.Body.Bytes.{pair_from, entries_length}

-- the three bytes of entry e, as one run of stores
put_run : (e kind x y : ℕ) (l : List ℕ) → put_at e kind x y l ≡ sets l (1 + 3 * e) (kind ∷ x ∷ y ∷ [])
put_run e kind x y l =
    let p : 2 + 3 * e ≡ suc (1 + 3 * e) = omega arith in
    let q : 3 + 3 * e ≡ suc (suc (1 + 3 * e)) = omega arith in
    λ i. set (set (set l (1 + 3 * e) kind) (p i) x) (q i) y

longer_length : (e : ℕ) (bytes : List ℕ) (t : Tree) → length bytes ≡ 1 + 3 * e
    → length (bytes ++ entries_from e t) ≡ 1 + 3 * (e + entry_total t)
longer_length e bytes t l = let i = entries_length e t in simp length-append (omega arith)

module _ (out : List ℕ) where
  -- e entries are made: these bytes, the first of them left for the count, and behind them the output unchanged
  abbrev written : ℕ → List ℕ → Made
  written e bytes = made e (bytes ++ drop (1 + 3 * e) out)

  -- one entry more
  put_writes : (e kind x y : ℕ) (bytes : List ℕ) {e' : ℕ} {bytes' : List ℕ} → length bytes ≡ 1 + 3 * e → e + 1 ≡ e'
      → bytes ++ (kind ∷ x ∷ y ∷ []) ≡ bytes' → 1 + 3 * e' ≤ length out → put kind x y (written e bytes) ≡ written e' bytes'
  put_writes e kind x y bytes {e'} l more longer h =
      let entry : List ℕ = kind ∷ x ∷ y ∷ [] in
      let rest = drop (1 + 3 * e) out in
      let p : 1 + 3 * e + 3 ≡ length bytes + 3 = omega arith in
      let q : 1 + 3 * e + 3 ≡ 1 + 3 * e' = omega arith in
      let d : drop (1 + 3 * e + 3) (bytes ++ rest) ≡ drop (1 + 3 * e') out =
      ap (λ (j : ℕ). drop j (bytes ++ rest)) p ∙ drop-append-add bytes rest 3 ∙ drop-drop 3 (1 + 3 * e) out
      ∙ ap (λ (j : ℕ). drop j out) q in
      ap₂ made more
      (put_run e kind x y (bytes ++ rest)
      ∙ sets-eq entry (bytes ++ rest) (1 + 3 * e) (simp (length-append, length-drop) (omega arith))
      ∙ ap₂ (λ (b r : List ℕ). (b ++ entry) ++ r) (take_at bytes rest (1 + 3 * e) l) d
      ∙ ap (◌++ drop (1 + 3 * e') out) longer)

  -- t becomes its entries, behind e others
  abbrev Writes : Tree → Type 0
  Writes t =
      (e : ℕ) (bytes : List ℕ) → length bytes ≡ 1 + 3 * e → 1 + 3 * (e + entry_total t) ≤ length out
      → after entries_in_place t (written e bytes) ≡ written (e + entry_total t) (bytes ++ entries_from e t)

  -- `or` and `and`, by the kind of their entry
  pair_writes : (kind : ℕ) (t u : Tree) → Writes t → Writes u → (e : ℕ) (bytes : List ℕ) → length bytes ≡ 1 + 3 * e
      → 1 + 3 * (e + (entry_total t + entry_total u + 1)) ≤ length out
      → let p = after entries_in_place t (written e bytes) in let q = after entries_in_place u p in
      put kind (p.count - 1) (q.count - 1) q ≡ written (e + (entry_total t + entry_total u + 1)) (bytes ++ pair_from kind e t u)
  pair_writes kind t u left right e bytes l h =
      let m = e + entry_total t in
      let bytes-t = bytes ++ entries_from e t in
      let lt = longer_length e bytes t l in
      let i = left e bytes l (omega arith) in
      let j = ap (after entries_in_place u) i ∙ right m bytes-t lt (omega arith) in
      let regrouped : (bytes-t ++ entries_from m u) ++ (kind ∷ last_entry e t ∷ last_entry m u ∷ []) ≡ bytes ++ pair_from kind e t u =
      simp append_assoc in
      ap₂ (λ (p q : Made). put kind (p.count - 1) (q.count - 1) q) i j
      ∙ put_writes (m + entry_total u) kind (last_entry e t) (last_entry m u) (bytes-t ++ entries_from m u) (longer_length m bytes-t u lt)
      (omega arith) regrouped h

  tree_writes : (t : Tree) → Writes t
  unfolding after entry_total entries_from
  tree_writes false_tree e bytes l h = put_writes e 0 0 0 bytes l refl refl h
  tree_writes true_tree e bytes l h = put_writes e 1 0 0 bytes l refl refl h
  tree_writes (action_tree n) e bytes l h = put_writes e 2 n 0 bytes l refl refl h
  tree_writes (or_tree t u) e bytes l h = pair_writes or_kind t u (tree_writes t) (tree_writes u) e bytes l h
  tree_writes (and_tree t u) e bytes l h = pair_writes and_kind t u (tree_writes t) (tree_writes u) e bytes l h
  tree_writes (not_tree t) e bytes l h =
      ap (λ (o : Made). put not_kind (o.count - 1) 0 o) (tree_writes t e bytes l (omega arith))
      ∙ put_writes (e + entry_total t) not_kind (last_entry e t) 0 (bytes ++ entries_from e t) (longer_length e bytes t l) (omega arith)
      (append_assoc bytes (entries_from e t) _) h

pub built_body_lem : (t : Tree) (out : List ℕ) → 1 + 3 * entry_total t ≤ length out
    → built_body (after entries_in_place t (made 0 out)) ≡ body_of t ++ drop (1 + 3 * entry_total t) out
unfolding body_of
built_body_lem t [] h = absurd (omega arith)
built_body_lem t (b ∷ out) h =
    let q : 0 + entry_total t ≡ entry_total t = omega arith in
    ap built_body (tree_writes (b ∷ out) t 0 (b ∷ []) refl (omega arith) ∙ ap (λ (e : ℕ). written (b ∷ out) e (b ∷ entries_from 0 t)) q)
