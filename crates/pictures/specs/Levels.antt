-- A number over virtual time, and its figures from a tick on. Its values are those at the ticks
-- 0, 1, ..; at a tick it has the value that it has after the events of that tick.
use Rattle.std.specs.Prelude.{ℕ, ◌≡◌, ◌+◌, ◌-◌, ◌^◌, List, [], ◌∷◌, ◌++◌, drop, length, max, min}
use Rattle.std.specs.Prelude.{replicate}
use Rattle.pictures.specs.Quotients.{saturated}
use Rattle.pictures.specs.declared.levels.Level.{Level}

-- the sum of these numbers
abbrev pub total : List ℕ → ℕ
total [] = 0
total (n ∷ ns) = n + total ns

-- the least of these numbers below 2^64; without any 2^64 - 1
abbrev pub least_of : List ℕ → ℕ
least_of [] = 2 ^ 64 - 1
least_of (n ∷ ns) = min n (least_of ns)

-- the greatest of these numbers; without any 0
abbrev pub greatest_of : List ℕ → ℕ
greatest_of [] = 0
greatest_of (n ∷ ns) = max n (greatest_of ns)

-- a level has the figures of these values, without those before its first tick that counts; a value
-- stands for one tick, so that their sum is the integral over virtual time
pub record IsLevel (values : List ℕ) (l : Level) : Type 0 where
  pub since : l.since ≡ length values
  pub integral : l.integral ≡ saturated (total (drop l.from values))
  pub least : l.least ≡ least_of (drop l.from values)
  pub most : l.most ≡ greatest_of (drop l.from values)

-- the values with those of a level at the ticks up to a time
abbrev pub held : ℕ → Level → List ℕ → List ℕ
held time l values = values ++ replicate (time - l.since) l.value

-- the level of a number that keeps its value at the ticks before a time, and has this one from then
-- on
pub record HasSet (time value : ℕ) (old new : Level) : Type 0 where
  pub held : (values : List ℕ) → IsLevel values old → IsLevel (held time old values) new
  pub set : new.value ≡ value
  pub from : new.from ≡ old.from
