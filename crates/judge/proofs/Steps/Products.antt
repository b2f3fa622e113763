-- Products of small numbers are small: the number of cells, and the place of a cell's byte.
use Rattle.std.proofs.Common.{ℕ, ◌+◌, ◌*◌, ◌<◌, ◌≤◌, le_of_lt, mul-le-mul, arith}

pub small_product : (a b c : ℕ) → a < 256 → b < 256 → c ≤ 256 → (a * b ≤ 65536) × (a * b * c ≤ 16777216)
small_product a b c ha hb hc =
    let first : a * b ≤ 256 * 256 = mul-le-mul {n₂ = 256} {m₂ = 256} (le_of_lt ha) (le_of_lt hb) in
    (first, mul-le-mul {n₂ = 65536} {m₂ = 256} first hc)

pub place_fits : (s n d m : ℕ) → s < 256 → n < 256 → d < 256 → m < 256 → (s * n ≤ 65536) × ((s * n + d) * m ≤ 16973824)
place_fits s n d m hs hn hd hm =
    let first : s * n ≤ 65536 = (small_product s n 0 hs hn (omega arith)).0 in
    (first, mul-le-mul {n₂ = 66304} {m₂ = 256} (omega arith) (omega arith))
