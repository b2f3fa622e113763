-- The line of a refusal: how long it is, and that it stands in a buffer that has room for every such line.
use Prim.Native.Nat.{ℕ, ◌≤◌}
use mathlib.Core.Path.{◌≡◌}
use mathlib.Core.List.{List}
use native.Mathlib.Omega.{arith}
use lib.ListN.{length, length-append}
use Rattle.text.specs.Placing.{place_after, buffer_after, Puts}
use Rattle.text.specs.RefusalLine.{refusal_line, refusal_length, RefusalFits}
use Rattle.text.proofs.Decimal.{decimal_length}
use Rattle.text.proofs.Placing.{put_at_start}

pub refusal_fits : RefusalFits
unfolding refusal_line
refusal_fits number place = simp length-append (omega (arith, decimal_length number, decimal_length place))

pub refusal_at_start : (number place : ℕ) (out : List ℕ) {n : ℕ} {buffer : List ℕ} → refusal_length ≤ length out
    → (n ≡ place_after (refusal_line number place) 0 out) × (buffer ≡ buffer_after (refusal_line number place) 0 out)
    → Puts (refusal_line number place) n out buffer
refusal_at_start number place out room p = put_at_start (refusal_line number place) out (omega (arith, refusal_fits number place)) p
