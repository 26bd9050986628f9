-- A number that is shifted as far as its leading zeros go.
use Rattle.std.proofs.Common.{◌≡◌, ◌<◌, ℕ, ◌+◌, ◌*◌, ◌%◌, ◌^◌, ap, arith, ◌∙◌, sym, subst}
use Rattle.std.specs.Int.Count.{count_leading_zeros}
use Rattle.std.proofs.lemmas.Nat.{leading_length, pow-add, pow_pos}
use Rattle.std.proofs.Math.Nat.{mul-lt-mul_of_pos_right, mod-eq_of_lt}

pub shift_fits : (v : ℕ) → v < 2 ^ 64 → v * 2 ^ count_leading_zeros 64 v < 2 ^ 64
shift_fits v fits =
    let zeros = count_leading_zeros 64 v in
    let found = leading_length 64 v fits in
    let more : v * 2 ^ zeros < 2 ^ found.0 * 2 ^ zeros = mul-lt-mul_of_pos_right found.2 (pow_pos zeros) in
    let sum : found.0 + zeros ≡ 64 = omega (arith, found.1) in
    let whole : 2 ^ found.0 * 2 ^ zeros ≡ 2 ^ 64 =
    sym (pow-add 2 found.0 zeros) ∙ ap (λ n. 2 ^ n) sum in
    subst (λ n. v * 2 ^ zeros < n) whole more

pub shift_stays : (v : ℕ) → v < 2 ^ 64 → v * 2 ^ count_leading_zeros 64 v % 2 ^ 64 ≡ v * 2 ^ count_leading_zeros 64 v
shift_stays v fits = mod-eq_of_lt (shift_fits v fits)
