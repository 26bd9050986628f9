-- Times by place, in ticks, in blocks of 32, and a bound for each block that no time there is below.
use Rattle.std.specs.Prelude.{ℕ, List, [], ◌∷◌, Option, Some, None, length, get_or, take, drop, min}
use Rattle.std.specs.Prelude.{nat_lt, if◌then◌else◌, ◌+◌, ◌-◌, ◌*◌, ◌/◌, ◌^◌, ◌≡◌, ◌≤◌, ◌<◌}

-- the time of a place that has none
abbrev pub never : ℕ
never = 2 ^ 64 - 1

abbrev pub ticks_of : Option ℕ → ℕ
ticks_of None = never
ticks_of (Some time) = time

abbrev pub time_of : ℕ → Option ℕ
time_of ticks = if nat_lt ticks never then Some ticks else None

-- the least of these times
abbrev pub least_in : List ℕ → ℕ
least_in [] = never
least_in (x ∷ xs) = min x (least_in xs)

-- the times of a block
abbrev pub block_at : ℕ → List ℕ → List ℕ
block_at block times = take 32 (drop (32 * block) times)

-- each time has the bound of its block
pub record AreTimes (times bounds : List ℕ) : Type 0 where
  pub size : length bounds ≡ length times / 32 + 1
  pub bounded : (k : ℕ) → k < length times → get_or bounds (k / 32) 0 ≤ get_or times k 0

-- no time, from one place on and before another, is below the limit
abbrev pub AreFrom : ℕ → List ℕ → ℕ → ℕ → Type 0
AreFrom limit times from to = (k : ℕ) → from ≤ k → k < to → limit ≤ get_or times k 0
