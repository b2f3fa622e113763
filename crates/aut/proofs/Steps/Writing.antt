-- The bytes of a body as they are written.
use Rattle.std.proofs.Common.{◌≡◌, ℕ, ◌+◌, ◌-◌, ◌*◌, ◌<◌, ◌/◌, ◌%◌, List, [], ◌∷◌, ◌++◌, length, take, drop, get_or, refl, sym, ap, ap₂, ◌∙◌, append_assoc, arith}
use native.Mathlib.Numerals.{add-one}
use lib.ListN.{length-append}
use lib.Seq.{take-suc, length-take-le, take_all, take_at, drop_at, drop-drop}
use borrow.Rule.Slice.PartMut.{put_mid}
use Rattle.aut.specs.Internal.Keys.{key_bytes}
use Rattle.aut.specs.Internal.Answering.{held_body}

bytes_append : (ks : List ℕ) (k : ℕ) → key_bytes (ks ++ k ∷ []) ≡ key_bytes ks ++ key_bytes (k ∷ [])
unfolding key_bytes
bytes_append [] k = refl
bytes_append (j ∷ ks) k = ap (λ (x : List ℕ). j / 65536 % 256 ∷ j / 256 % 256 ∷ j % 256 ∷ x) (bytes_append ks k)

pub bytes_size : (ks : List ℕ) → length (key_bytes ks) ≡ 3 * length ks
unfolding key_bytes
bytes_size [] = refl
bytes_size (k ∷ ks) = omega (arith, bytes_size ks)

module _ (o ks : List ℕ) (a b low high : ℕ) where
  abbrev head : List ℕ
  head = a ∷ b ∷ low ∷ high ∷ []

  -- the output o once the head and i keys stand at its front
  abbrev pub after : ℕ → List ℕ
  after i = (head ++ key_bytes (take i ks)) ++ drop (4 + 3 * i) o

  pub after_none : {out : List ℕ} → out ≡ head ++ drop 4 o → out ≡ after 0
  unfolding key_bytes
  after_none e = e ∙ sym (append_assoc head [] (drop 4 o))

  pub after_next : (i : ℕ) → i < length ks → {out new : List ℕ} → out ≡ after i → new ≡ key_bytes (get_or ks i 0 ∷ [])
      → put_mid (4 + 3 * i) (4 + 3 * i + 3 - (4 + 3 * i)) out new ≡ after (i + 1)
  after_next i l {out} {new} e k =
      let f = head ++ key_bytes (take i ks) in
      let d = drop (4 + 3 * i) o in
      let n : length f ≡ 4 + 3 * i =
      omega (arith, length-append head (key_bytes (take i ks)), bytes_size (take i ks), length-take-le i ks (omega arith)) in
      let s : 4 + 3 * i + 3 - (4 + 3 * i) ≡ 3 = omega arith in
      let z : 3 + (4 + 3 * i) ≡ 4 + 3 * (i + 1) = omega arith in
      let t : take (i + 1) ks ≡ take i ks ++ get_or ks i 0 ∷ [] = ap (λ (m : ℕ). take m ks) (add-one i) ∙ take-suc ks i 0 l in
      let x : take (4 + 3 * i) out ≡ f = ap (take (4 + 3 * i)) e ∙ take_at f d (4 + 3 * i) n in
      let y : drop (4 + 3 * i + 3 - (4 + 3 * i)) (drop (4 + 3 * i) out) ≡ drop (4 + 3 * (i + 1)) o =
      ap₂ (λ (m : ℕ) (u : List ℕ). drop m u) s (ap (drop (4 + 3 * i)) e ∙ drop_at f d (4 + 3 * i) n)
      ∙ drop-drop 3 (4 + 3 * i) o ∙ ap (λ (m : ℕ). drop m o) (omega (arith, z)) in
      (λ j. x j ++ (k j ++ y j))
      ∙ sym (append_assoc f (key_bytes (get_or ks i 0 ∷ [])) (drop (4 + 3 * (i + 1)) o))
      ∙ ap (◌++ drop (4 + 3 * (i + 1)) o)
      (append_assoc head (key_bytes (take i ks)) (key_bytes (get_or ks i 0 ∷ []))
      ∙ ap (head ++◌) (sym (ap key_bytes t ∙ bytes_append (take i ks) (get_or ks i 0))))

  pub after_all : (i : ℕ) → i ≡ length ks → low ≡ length ks % 256 → high ≡ length ks / 256 % 256
      → after i ≡ held_body a b ks ++ drop (4 + 3 * length ks) o
  after_all i e f g =
      ap after e ∙ ap (λ (k : List ℕ). (head ++ key_bytes k) ++ drop (4 + 3 * length ks) o) (take_all (length ks) ks (omega arith))
      ∙ (λ j. (a ∷ b ∷ f j ∷ g j ∷ key_bytes ks) ++ drop (4 + 3 * length ks) o)
