-- Labels of which none stands twice: one more keeps them so.
use Prim.Native.Nat.{ℕ, ◌<◌, ◌≤◌}
use mathlib.Core.Path.{◌≡◌, refl, sym, ap, ◌∙◌}
use mathlib.Core.Bool.{Bool, true, false}
use mathlib.Core.List.{List, [], ◌∷◌, ◌++◌}
use native.Mathlib.Omega.{arith}
use native.Mathlib.Decide.{dec_lt}
use lib.Dec.{ltb}
use lib.ListN.{length, get_or, length-append, get_or-append}
use lib.Seq.{get_or-append_seam}
use borrow.Author.Tests.{ltb-false}
use Rattle.sheet.specs.Bytes.{pick}
use Rattle.aut.specs.Plans.{label_number, with_label}
use Rattle.aut.specs.Internal.Held.{Different}
use Rattle.aut.proofs.Plans.Labels.{number_kept, number_last}

append_different : (ks : List (List ℕ)) (l : List ℕ) → Different ks → length ks ≤ label_number l ks → Different (ks ++ l ∷ [])
append_different ks l d h = record { at = go }
  where
    go : (i : ℕ) → i < length (ks ++ l ∷ []) → label_number (get_or (ks ++ l ∷ []) i []) (ks ++ l ∷ []) ≡ i
    go i b =
        elim (dec_lt i (length ks)) [
          | yes q ↦
              let e : get_or (ks ++ l ∷ []) i [] ≡ get_or ks i [] = get_or-append ks (l ∷ []) [] i q in
              let p : label_number (get_or ks i []) ks ≡ i = d.at i q in
              ap (λ (m : List ℕ). label_number m (ks ++ l ∷ [])) e ∙ number_kept (get_or ks i []) ks (l ∷ []) (omega arith) ∙ p
          | no q ↦
              let z : i ≡ length ks = omega (arith, length-append ks (l ∷ [])) in
              ap (λ (j : ℕ). label_number (get_or (ks ++ l ∷ []) j []) (ks ++ l ∷ [])) z
              ∙ ap (λ (m : List ℕ). label_number m (ks ++ l ∷ [])) (get_or-append_seam ks l [] [])
              ∙ number_last l ks h ∙ sym z
        ]

pub with_different : (l : List ℕ) (ks : List (List ℕ)) → Different ks → Different (with_label l ks)
with_different l ks d = go (ltb (label_number l ks) (length ks)) refl
  where
    go : (p : Bool) → ltb (label_number l ks) (length ks) ≡ p → Different (pick p ks (ks ++ l ∷ []))
    go true e = d
    go false e = append_different ks l d (ltb-false (label_number l ks) (length ks) e)
