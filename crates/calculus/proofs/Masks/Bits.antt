-- The bits of a number that is put together from the low bit up.
use Prim.Native.Nat.{ℕ, suc, ◌+◌, ◌-◌, ◌*◌, ◌/◌, ◌%◌, ◌^◌, ◌<◌, ◌≤◌}
use mathlib.Core.Path.{◌≡◌, ap, ◌∙◌}
use mathlib.Core.Bool.{Bool, true, false}
use native.Mathlib.Omega.{arith}
use native.Mathlib.Nat.{lt_of_lt_of_le, div-eq_of_lt, add-div_right, add-mul-div_right, add-mul-mod_self_right, pow-suc}
use lib.Dec.{eqb}
use lib.Pow.{pow_pos, pow_mono, pow-add}
use Rattle.calculus.specs.MeetingMask.{bit}

abbrev odd : ℕ → Bool
odd q = eqb (q % 2) 1

-- a number below 2 ^ e has no bit from e on
pub bit_high : (m e x : ℕ) → m < 2 ^ e → e ≤ x → bit m x ≡ false
unfolding bit
bit_high m e x l h = ap odd (div-eq_of_lt (lt_of_lt_of_le l (pow_mono h)))

pub bit_here : (m e : ℕ) → m < 2 ^ e → bit (m + 2 ^ e) e ≡ true
unfolding bit
bit_here m e l = ap odd (add-div_right m (pow_pos e) ∙ ap (λ (q : ℕ). q + 1) (div-eq_of_lt l))

-- adding 2 ^ e changes no bit below e
pub bit_low : (m e x : ℕ) → x < e → bit (m + 2 ^ e) x ≡ bit m x
unfolding bit
bit_low m e x l =
    let k : ℕ = e - suc x in
    let s : e ≡ suc k + x = omega arith in
    let p : 2 ^ e ≡ 2 ^ k * 2 * 2 ^ x = ap (λ (i : ℕ). 2 ^ i) s ∙ (pow-add 2 (suc k) x ∙ ap (λ (i : ℕ). i * 2 ^ x) (pow-suc 2 k)) in
    let d : (m + 2 ^ e) / 2 ^ x ≡ m / 2 ^ x + 2 ^ k * 2 = ap (λ (i : ℕ). (m + i) / 2 ^ x) p ∙ add-mul-div_right m (2 ^ k * 2) (pow_pos x) in
    ap odd d ∙ ap (λ (i : ℕ). eqb i 1) (add-mul-mod_self_right (m / 2 ^ x) (2 ^ k) 2)
