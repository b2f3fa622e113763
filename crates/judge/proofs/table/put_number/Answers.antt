-- `judge::table::put_number` meets its contract.
use Rattle.std.proofs.Common.{◌≡◌, ℕ, ◌+◌, ◌-◌, ◌%◌, ◌/◌, List, ◌∷◌, ◌++◌, take, drop, drop-drop, ap, ◌∙◌, arith}
use Rattle.judge.proofs.table.put_number.Goals as goal

pub returns : goal.returns
returns c =
    let at = c.args.at in
    let n = c.args.n in
    let t = c.args.table.now in
    let four : at + 4 - at ≡ 4 = omega arith in
    rw (c.copy_from_slice.ensures.after, c.to_le_bytes.ensures)
    (ap (λ (l : List ℕ). take at t ++ (n % 256 ∷ n / 256 % 256 ∷ n / 65536 % 256 ∷ n / 16777216 % 256 ∷ l)) (ap (λ (k : ℕ). drop k (drop at t)) four ∙ drop-drop 4 at t))
