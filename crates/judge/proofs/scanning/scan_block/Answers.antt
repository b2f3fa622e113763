-- `judge::scanning::scan_block` meets its contract: the bytes up to the whole length are the block.
use Rattle.std.proofs.Common.{◌≡◌, List, ℕ, length, take, ap, ◌∙◌, sym, arith}
use Rattle.std.proofs.lemmas.List.{take_all}
use Rattle.judge.specs.Internal.Scanning.{scan_of}
use Rattle.judge.proofs.scanning.scan_block.Goals as goal

whole : (l : List ℕ) → length l ≡ 224 → take 224 l ≡ l
whole l e = take_all 224 l (omega arith)

pub slice_bounds-scan_bytes-end : goal.slice_bounds-scan_bytes-end
slice_bounds-scan_bytes-end c = sym c.if-block-eq-BLOCK.true ∙ ap length (sym (whole c.args.block.now c.if-block-eq-BLOCK.true))

pub scan_bytes-requires : goal.scan_bytes-requires
scan_bytes-requires c = omega (arith, ap length (whole c.args.block.now c.if-block-eq-BLOCK.true))

pub returns-then-block-eq-BLOCK : goal.returns-then-block-eq-BLOCK
returns-then-block-eq-BLOCK c = c.scan_bytes.ensures ∙ ap scan_of (whole c.args.block.now c.if-block-eq-BLOCK.true)
