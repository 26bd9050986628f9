-- Messages grouped by time: a list of times, ascending, each with the ascending list of its
-- messages.
use Rattle.std.specs.List.{AllByRecursion as Every}
use Rattle.std.specs.Prelude.{ℕ, List, [], ◌∷◌, ◌++◌, reverse, length, ◌≡◌, ◌<◌, ◌+◌}
use Rattle.eventkey.specs.Bag.{IsAscending, add}
use Rattle.eventkey.specs.Message.{Message}
use Rattle.queues.specs.declared.bucket.Bucket.TheInside.{Inside}

-- the messages of a bucket: the least one, and the others, which the code keeps greatest first
abbrev pub bucket_of : Inside → List Message
bucket_of b = b.first ∷ reverse b.others.items

-- the messages of all times
abbrev pub all_of : List (ℕ × List Message) → List Message
all_of [] = []
all_of (e ∷ es) = e.1 ++ all_of es

-- these are the messages of this time, at least one, in ascending order
pub record IsBucket (time : ℕ) (ms : List Message) : Type 0 where
  pub ascending : IsAscending ms
  pub some : 0 < length ms
  pub timed : Every (λ (m : Message). m.time ≡ time) ms

-- all these times are later
abbrev pub IsLater : ℕ → List (ℕ × List Message) → Type 0
IsLater time es = Every (λ (e : ℕ × List Message). time < e.0) es

-- each time has its bucket, and the times ascend
abbrev pub IsParted : List (ℕ × List Message) → Type 0
IsParted [] = Unit {0}
IsParted (e ∷ es) = (IsBucket e.0 e.1 × IsLater e.0 es) × IsParted es

-- the new buckets are the old ones with the message m added
pub record IsAdded (m : Message) (old new : List (ℕ × List Message)) : Type 0 where
  pub parted : IsParted new
  pub all : all_of new ≡ add m (all_of old)
  pub many : length (all_of new) ≡ length (all_of old) + 1
