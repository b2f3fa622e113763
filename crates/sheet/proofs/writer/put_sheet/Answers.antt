-- `sheet::writer::put_sheet` meets its contract: each copy goes right behind the one before.
use native.Mathlib.Omega.{arith}
use mathlib.Core.Path.{sym, ap, ◌∙◌}
use mathlib.Core.List.{List}
use Prim.Native.Nat.{ℕ}
use lib.ListN.{length}
use lib.Seq.{paste}
use Rattle.sheet.proofs.Steps.Writing.{copied}
use Rattle.sheet.proofs.writer.put_sheet.Goals as goal

pub slice_bounds-copy_at-end : goal.slice_bounds-copy_at-end
slice_bounds-copy_at-end c = ap length (sym c.head_of-head.ensures)

pub copy_at-requires : goal.copy_at-requires
copy_at-requires c = omega (arith, ap length c.head_of-head.ensures, c.requires.room)

pub copy_at-requires-2 : goal.copy_at-requires-2
copy_at-requires-2 c = omega (arith, c.copy_at.auto.out, c.requires.room)

pub copy_at-requires-3 : goal.copy_at-requires-3
copy_at-requires-3 c =
    let at-copy-at2 = c in
    let at-copy-at = at-copy-at2 in
    let start = at-copy-at in
    omega (arith, at-copy-at.copy_at.auto.out, at-copy-at2.copy_at-2.auto.out, start.requires.room)

pub copy_at-requires-4 : goal.copy_at-requires-4
copy_at-requires-4 c =
    let at-copy-at3 = c in
    let at-copy-at2 = at-copy-at3 in
    let at-copy-at = at-copy-at2 in
    let start = at-copy-at in
    omega (arith, at-copy-at.copy_at.auto.out, at-copy-at2.copy_at-2.auto.out, at-copy-at3.copy_at-3.auto.out, start.requires.room)

pub returns : goal.returns
returns c =
    let at-copy-at4 = c in
    let at-copy-at3 = at-copy-at4 in
    let at-copy-at2 = at-copy-at3 in
    let at-copy-at = at-copy-at2 in
    let at-head-of = at-copy-at in
    let start = at-head-of in
    let a = start.args in
    copied a.p.now a.a.now a.r.now a.out.now _ _ _ _
    (at-copy-at.copy_at.ensures ∙ ap (λ (h : List ℕ). paste a.out.now 0 h (length h)) at-head-of.head_of-head.ensures) at-copy-at2.copy_at-2.ensures
    at-copy-at3.copy_at-3.ensures at-copy-at4.copy_at-4.ensures

-- same_length : Need-same-length
-- same_length c =
--     let at-copy-at4 = c.before.before in
--     let at-copy-at3 = at-copy-at4.before.before.before.before in
--     let at-copy-at2 = at-copy-at3.before.before.before.before in
--     let at-copy-at = at-copy-at2.before.before.before.before in
--     at-copy-at4.copy-at4.auto.0 ∙ (at-copy-at3.copy-at3.auto.0 ∙ (at-copy-at2.copy-at2.auto.0 ∙ at-copy-at.copy_at.auto.0))
