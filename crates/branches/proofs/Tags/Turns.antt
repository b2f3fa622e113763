-- The loop over the bytes: the tag of the whole is the tag so far and the bytes that follow.
use mathlib.Core.Path.{◌≡◌, sym, ap, ◌∙◌}
use mathlib.Core.List.{List}
use Prim.Native.Nat.{ℕ, ◌+◌, ◌<◌, ◌≤◌}
use native.Mathlib.Numerals.{add-one}
use lib.ListN.{length, get_or, drop, drop_of_length-le}
use lib.Seq.{drop-cons}
use Rattle.branches.specs.Tags.{tag_with, tag_from}

module _ (bytes : List ℕ) (tag i : ℕ) where
  pub turn : i < length bytes → tag_from tag (drop i bytes) ≡ tag_from (tag_with tag (get_or bytes i 0)) (drop (i + 1) bytes)
  unfolding tag_from
  turn h =
      ap (tag_from tag) (drop-cons bytes i 0 h) ∙ ap (λ (k : ℕ). tag_from (tag_with tag (get_or bytes i 0)) (drop k bytes)) (sym (add-one i))

  pub end : length bytes ≤ i → tag_from tag (drop i bytes) ≡ tag
  unfolding tag_from
  end h = ap (tag_from tag) (drop_of_length-le bytes h)
