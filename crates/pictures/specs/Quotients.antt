-- Quotients and roots of whole numbers, rounded down.
use Rattle.std.specs.Prelude.{ℕ, ◌+◌, ◌-◌, ◌*◌, ◌/◌, ◌^◌, ◌≤◌, ◌<◌, min}

-- a number; one of 2^128 or above counts as 2^128 - 1
abbrev pub saturated : ℕ → ℕ
saturated n = min (2 ^ 128 - 1) n

-- r is the root of n, rounded down
pub record IsRoot (n r : ℕ) : Type 0 where
  pub least : r * r ≤ n
  pub most : n < (r + 1) * (r + 1)

-- the variance of numbers, in units of 10^-12, from how many there are, their sum and the sum of
-- their squares
abbrev pub variance : ℕ → ℕ → ℕ → ℕ
variance count sum squares =
    1000000000000 * (count * squares - sum * sum) / (count * count)
