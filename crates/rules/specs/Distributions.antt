-- The distributions of rules, by whole numbers alone: each number is a function of one or two drawn
-- words, w, each from 0 to 2^32 - 1.
use Rattle.std.specs.Prelude.{ℕ, ◌+◌, ◌-◌, ◌*◌, ◌/◌, ◌%◌, ◌^◌, List, [], ◌∷◌, Option, Some, None}
use Rattle.std.specs.Prelude.{eqb, nat_lt, max, min, slice_index, if◌then◌else◌}
use Rattle.std.specs.Int.{leading_zeros, w64}
use Rattle.rules.specs.Quantiles.{exponential_quantiles, normal_quantiles}

-- a number that is too great stops here
abbrev pub saturated : ℕ → ℕ
saturated n = min n (2 ^ 64 - 1)

-- How far v, from 1 to 2^33 - 1, lies below 2^33. The whole part, in units of 2^32, counts the
-- halvings: v is at most 2^33 / 2^k and above half of that. The rest is how far v has come on the
-- way from there down to the half.
abbrev pub depth : ℕ → ℕ
depth v =
    (leading_zeros w64 v - 31) * 2 ^ 32 + (2 ^ 64 - 1 - v * 2 ^ leading_zeros w64 v) / 2 ^ 31

-- between two neighbours of an ascending table, in proportion; a part of the way is one entry
abbrev pub between : List ℕ → ℕ → ℕ → ℕ
between table part way =
    slice_index table (way / part)
    + (slice_index table (way / part + 1) - slice_index table (way / part)) * (way % part) / part

-- An exponential variable with the mean 1, in units of 2^-32: minus the logarithm of
-- u = (2 w + 1) / 2^33. Each halving of u adds the logarithm of 2, and the rest is interpolated.
unfoldable pub standard_exponential : ℕ → ℕ
standard_exponential w =
    depth (2 * w + 1) / 2 ^ 32 * slice_index exponential_quantiles 256
    + between exponential_quantiles (2 ^ 24) (depth (2 * w + 1) % 2 ^ 32)

-- exponential(mean), rounded to the nearest number
unfoldable pub exponential : ℕ → ℕ → ℕ
exponential mean w = saturated ((mean * standard_exponential w + 2 ^ 31) / 2 ^ 32)

-- How far a standard normal variable lies from 0, in units of 2^-28, where it lies further in
-- either direction with the probability (2 m + 1) / 2^32: m is the word without its highest bit.
unfoldable pub standard_normal : ℕ → ℕ
standard_normal w = between normal_quantiles (2 ^ 28) (depth (4 * (w % 2 ^ 31) + 2))

-- normal(mean, deviation), rounded to the nearest number, and at least 0: the highest bit of the
-- word says on which side of the mean it is
unfoldable pub normal : ℕ → ℕ → ℕ → ℕ
normal mean deviation w =
    if nat_lt w (2 ^ 31) then mean - (deviation * standard_normal w + 2 ^ 27) / 2 ^ 28
    else saturated (mean + (deviation * standard_normal w + 2 ^ 27) / 2 ^ 28)

-- triangular(least, mode, most), rounded to the nearest number: a point is uniform in a triangle
-- whose corners have these values, and has the value that is linear in between
unfoldable pub triangular : ℕ → ℕ → ℕ → ℕ → ℕ → ℕ
triangular least mode most v w =
    let top = max least most in
    let peak = min (max least mode) top in
    saturated (least + ((peak - least) * max v w + (top - peak) * min v w + 2 ^ 31) / 2 ^ 32)

-- The mean, in units of 2^-16, of the exponential variable whose whole part is geometric with the
-- mean m, 1 / log (1 + 1 / m): m + 1/2 less a rest, which is below a unit from 8192 on.
abbrev pub stretched : ℕ → ℕ
stretched m =
    2 ^ 16 * m + 2 ^ 15
    - (if nat_lt m 8192 then 163840 * (2 * m + 1) / (60 * (m * (m + 1)) + 11) else 0)

-- geometric(mean): the number of failures before the first success
unfoldable pub geometric : ℕ → ℕ → ℕ
geometric mean w =
    if eqb mean 0 then 0 else saturated (standard_exponential w * stretched mean / 2 ^ 48)

-- the sum of the weights of a table
abbrev pub total : List ℕ → ℕ
total [] = 0
total (weight ∷ rest) = weight + total rest

-- the first place at which the sum of the weights from place i up to it is above n, or 0
abbrev pub pick : ℕ → List ℕ → ℕ → ℕ
pick i [] n = 0
pick i (weight ∷ rest) n = if nat_lt n weight then i else pick (i + 1) rest (n - weight)

-- choose(TABLE): a place by the weights
unfoldable pub choice_of : List ℕ → ℕ → ℕ
choice_of table w = saturated (pick 0 table (saturated (total table) * w / 2 ^ 32))

-- without a table it is 0
abbrev pub choice : Option (List ℕ) → ℕ → ℕ
choice None w = 0
choice (Some table) w = choice_of table w
