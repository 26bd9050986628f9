-- The values of a word in messages, and their figures. Percentiles are by the nearest rank. Of
-- up to 2^16 values they are exact; of more each value counts as the greatest one of its bucket.
use Rattle.std.specs.List.{filter}
use Rattle.std.specs.List.Sorted.{IsPermutation, IsSorted}
use Rattle.std.specs.Ordering.{nat_cmp}
use Rattle.std.specs.Prelude.{ℕ, zero, suc, ◌≡◌, ◌==◌, ◌+◌, ◌-◌, ◌*◌, ◌/◌, ◌%◌, ◌^◌, ◌<◌, ◌≤◌, List}
use Rattle.std.specs.Prelude.{[], IfSome, get_or, if◌then◌else◌, length, map, max, min, nat_lt}
use Rattle.std.specs.Prelude.{take}
use Rattle.pictures.specs.Levels.{greatest_of, least_of, total}
use Rattle.pictures.specs.Quotients.{IsRoot, saturated, variance}
use Rattle.pictures.specs.declared.tallies.Moments.{Moments}
use Rattle.pictures.specs.declared.tallies.Ranking.{Ranking}
use Rattle.pictures.specs.declared.tallies.Tallied.{Tallied}
use Rattle.pictures.specs.declared.tallies.Tally.{Tally}

-- 1. Sums

-- a number; one of 2^64 or above counts as 2^64 - 1
abbrev pub word_saturated : ℕ → ℕ
word_saturated n = min (2 ^ 64 - 1) n

-- how many values there are, their sum, the sum of their squares, the least and the greatest
pub record AreMoments (values : List ℕ) (s : Moments) : Type 0 where
  pub count : s.count ≡ word_saturated (length values)
  pub sum : s.sum ≡ saturated (total values)
  pub squares : s.squares ≡ saturated (total (map (λ v. v * v) values))
  pub least : s.least ≡ least_of values
  pub most : s.most ≡ greatest_of values

-- 2. Buckets

-- the bucket of a value in at most this number of halvings: below 256 there is one for each value, and the
-- buckets of a value that is twice as great are twice as wide
unfoldable pub bucket_within : ℕ → ℕ → ℕ
bucket_within zero value = min value 255
bucket_within (suc halvings) value =
    if nat_lt value 256 then value else 128 + bucket_within halvings (value / 2)

abbrev pub bucket_of : ℕ → ℕ
bucket_of value = bucket_within 56 value

-- the greatest value of a bucket
abbrev pub upper_of : ℕ → ℕ
upper_of bucket =
    if nat_lt bucket 256 then bucket
    else (bucket % 128 + 129) * 2 ^ (bucket / 128 - 1) - 1

-- how many of these values a bucket has
abbrev pub count_in : ℕ → List ℕ → ℕ
count_in bucket values = length (filter (λ value. bucket_of value == bucket) values)

-- 3. Percentiles

-- the counts of the 7,424 buckets
pub record AreCounts (values counts : List ℕ) : Type 0 where
  pub long : length counts ≡ 7424
  pub each : (bucket : ℕ) → bucket < 7424 →
      get_or counts bucket 0 ≡ word_saturated (count_in bucket values)

-- up to 2^16 values are kept, and more are counted in buckets
pub record IsRanking (values : List ℕ) (r : Ranking) : Type 0 where
  pub exact : length values ≤ 65536 → (r.values.items ≡ values) × (r.counts.items ≡ [])
  pub rounded : 65536 < length values → AreCounts values r.counts.items

-- the rank of a percentile among this number of values, from 1 on
abbrev pub rank_of : ℕ → ℕ → ℕ
rank_of percent count = (count * percent + 99) / 100

-- the values in ascending order
pub record IsInOrder (values sorted : List ℕ) : Type 0 where
  pub ascending : IsSorted nat_cmp sorted
  pub same : IsPermutation values sorted

-- the bucket of the value of this rank: those before it have fewer values, and with it they have as
-- many
pub record IsNearest (rank : ℕ) (counts : List ℕ) (bucket : ℕ) : Type 0 where
  pub before : total (take bucket counts) < rank
  pub reached : rank ≤ total (take (bucket + 1) counts)

-- the value of a rank: of values that are kept the one at its place in ascending order, and of
-- counted ones the greatest of its bucket
pub record IsRanked (r : Ranking) (rank value : ℕ) : Type 0 where
  pub exact : r.counts.items ≡ [] → (sorted : List ℕ) × IsInOrder r.values.items sorted
      × (value ≡ get_or sorted (rank - 1) 0)
  pub rounded : 1 ≤ rank → 0 < length r.counts.items → rank ≤ total r.counts.items →
      (bucket : ℕ) × IsNearest rank r.counts.items bucket
      × (bucket < 7424 → value ≡ upper_of bucket)

-- 4. A tally

-- a tally has the sums over these values, and the values in order or in buckets
pub record IsTally (values : List ℕ) (t : Tally) : Type 0 where
  pub moments : AreMoments values t.moments
  pub ranking : IsRanking values t.ranking

-- the figures of values with these sums
pub record AreFiguresOf (m : Moments) (f : Tallied) : Type 0 where
  pub count : f.count ≡ m.count
  pub whole : f.mean.whole ≡ word_saturated (m.sum / max 1 m.count)
  pub millionths : f.mean.millionths ≡ 1000000 * (m.sum % max 1 m.count) / max 1 m.count
  pub deviation : IfSome f.deviation (λ d. IsRoot (variance m.count m.sum m.squares)
      (1000000 * d.whole + d.millionths))
  pub least : f.least ≡ m.least
  pub most : f.most ≡ m.most
