use Rattle.std.proofs.Common.{◌≡◌, ℕ, ◌+◌, ◌≤◌, List, ◌++◌, length, take, ap, ap₂, sym, subst, ◌∙◌, le_refl, drop_at, length-take-le, rules}
use Rattle.std.proofs.Math.Seq.{take-add}
use Rattle.std.proofs.lemmas.List.{take-append-le}
use Rattle.std.proofs.lemmas.Slice.{take-put_mid_below}
use Rattle.std.specs.Io.KnownBytes.{Consumes}
use Rattle.std.proofs.KnownBytes.{Consumes-trans}
use borrow.Rule.Slice.PartMut.{put_mid, post_of}
use Rattle.streams.proofs.read_full.Goals as goal

-- what was there, and what was read behind it
take-put_mid_into : (a k n : ℕ) (xs ys : List ℕ) → a ≤ length xs → n ≤ length ys → take (a + n) (put_mid a k xs ys) ≡ take a xs ++ take n ys
take-put_mid_into a k n xs ys within fits =
    take-add a n (put_mid a k xs ys)
    ∙ ap₂ ◌++◌ (take-put_mid_below _ _ _ _ _ (le_refl _) within)
    (ap (take n) (drop_at (take a xs) (ys ++ post_of a k xs) a (length-take-le a xs within)) ∙ take-append-le n ys (post_of a k xs) fits)

pub loop-done-preserved : goal.loop-done-preserved
loop-done-preserved g c =
    let read = c.in_ok-n.ensures in
    let done = c.loop-done.invariant in
    let joined = take-put_mid_into c.loop-done.done _ c.in_ok-n.n c.loop-done.buf c.read.new.buf done.1 read.bound.0 in
    (search rules, search rules, search rules, subst (Consumes _ _) (sym joined) (Consumes-trans _ _ _ _ _ done.3 read.bytes.0))
