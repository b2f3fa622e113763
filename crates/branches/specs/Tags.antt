-- Document 02 (i): "the sheet's tag: 32-bit FNV-1a, arithmetic modulo 2 to the 32 (start 2166136261, multiplier 16777619), of the old
-- sheet's bytes". A tag is a hash value, FNV-1a the hash function of Fowler, Noll and Vo; the start is its offset basis, the multiplier its
-- FNV prime.
use Rattle.std.specs.Prelude.{ℕ, ◌*◌, ◌%◌, ◌≡◌, List, [], ◌∷◌}
use Rattle.std.specs.Int.Bits.{bit_xor}

-- "arithmetic modulo 2 to the 32", which is 4294967296
abbrev pub wrapped : ℕ → ℕ
wrapped n = n % 4294967296

-- the tag so far and one byte more: in FNV-1a the exclusive or comes first, then the multiplication; "multiplier 16777619"
abbrev pub tag_with : ℕ → ℕ → ℕ
tag_with tag byte = wrapped (bit_xor tag byte * 16777619)

-- the tag so far and the bytes that follow, one after another
unfoldable pub tag_from : ℕ → List ℕ → ℕ
tag_from tag [] = tag
tag_from tag (byte ∷ bytes) = tag_from (tag_with tag byte) bytes

-- "start 2166136261"
abbrev pub tag_of : List ℕ → ℕ
tag_of bytes = tag_from 2166136261 bytes

-- Tags that FNV's authors give for the text of no byte, for `a` and for `foobar`. Shown by known_tags of proofs/Tags/Known.antt.
pub record KnownTags : Type 0 where
  pub empty : tag_of [] ≡ 2166136261
  pub a : tag_of (97 ∷ []) ≡ 3826002220
  pub foobar : tag_of (102 ∷ 111 ∷ 111 ∷ 98 ∷ 97 ∷ 114 ∷ []) ≡ 3214735720
