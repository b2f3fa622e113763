use Rattle.std.proofs.Common.{◌≡◌, ◌≤◌, ℕ, length, ap, ◌∙◌, arith}
use Rattle.rows.specs.Tables.{byte_at, filled, count}
use Rattle.judge.proofs.Steps.ScanSteps.{scan_small, scan_over, block_start, block_next}
use Rattle.judge.proofs.scanning.scan_bytes.Goals as goal

pub loop-byte-init : goal.loop-byte-init
loop-byte-init c = block_start _

pub loop-byte-preserved : goal.loop-byte-preserved
loop-byte-preserved c = block_next c.loop-byte.invariant c.min-one.ensures c.max-highest.ensures

pub returns-then-highest-gt2 : goal.returns-then-highest-gt2
returns-then-highest-gt2 c =
    let f = c.loop-byte.invariant.big (omega arith) in
    scan_over c.args.bytes.now f.0 (omega (arith, f.1)) f.2

pub returns-else-highest-gt2 : goal.returns-else-highest-gt2
returns-else-highest-gt2 c =
    let w = c.loop-byte.invariant in
    let few : c.loop-byte.highest ≤ 2 = omega arith in
    let all : c.loop-byte.byte-index ≡ length c.args.bytes.now = omega arith in
    scan_small c.args.bytes.now (λ i h. omega (arith, w.small i (omega arith)))
    (w.counted few ∙ ap (λ (k : ℕ). count k (λ i. filled (byte_at c.args.bytes.now i))) all)
