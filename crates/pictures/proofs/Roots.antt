-- Quotients.
use Rattle.std.proofs.Common.{◌≡◌, ℕ, ◌+◌, ◌*◌, ◌/◌, ◌%◌, ◌<◌, arith, ap, ◌∙◌}
use Rattle.std.proofs.Math.Nat.{add-mul-div_left}
use Rattle.std.proofs.lemmas.Nat.{div-add-mod'}

-- a quotient of a multiple, from the quotient and the rest
pub scaled_division : (k n d : ℕ) → 0 < d → k * n / d ≡ n / d * k + n % d * k / d
scaled_division k n d some =
    let parts : k * n ≡ n % d * k + d * (n / d * k) = omega (arith, ap (λ z. k * z) (div-add-mod' n d)) in
    ap (λ z. z / d) parts ∙ add-mul-div_left (n % d * k) (n / d * k) some ∙ omega arith
