-- How many values of a word of messages are in each of some bins of equal width.
use Rattle.std.specs.List.{filter}
use Rattle.std.specs.Prelude.{ℕ, zero, suc, ◌≡◌, ◌==◌, ◌+◌, ◌*◌, ◌++◌, ◌&&◌, ◌<◌, ◌≤◌, Bool, List}
use Rattle.std.specs.Prelude.{None, Option, Some, get_or, length, map, min, nat_le, nat_lt, true}
use Rattle.eventkey.specs.Message.{Message}
use Rattle.model.specs.Meaning.{Meaning}
use Rattle.model.specs.World.{IsUpto, World}
use Rattle.pictures.specs.Levels.{greatest_of, least_of}
use Rattle.pictures.specs.Stepping.{IsPassed}
use Rattle.pictures.specs.Tallies.{IsTally}
use Rattle.pictures.specs.declared.histograms.Bins.{Bins}
use Rattle.pictures.specs.declared.histograms.Word.{Word}
use Rattle.pictures.specs.declared.tallies.Tally.{Tally}

-- a message is of the sort that its first word of content says, or of any if none is asked for
abbrev pub is_of_sort : Option ℕ → Message → Bool
is_of_sort None x = true
is_of_sort (Some sort) x = x.a == sort

-- the word at a place of the content of a message
abbrev pub content_at : ℕ → Message → ℕ
content_at zero x = x.a
content_at (suc zero) x = x.b
content_at (suc (suc zero)) x = x.c
content_at (suc (suc (suc place))) x = x.d

-- the values of a word in the messages of a sort among the handled ones
abbrev pub values_of : Word → List Message → List ℕ
values_of w log = map (content_at w.place) (filter (is_of_sort w.sort) log)

-- a tally has the values of a word in the messages that the sequential simulation handles up to a
-- time, or up to its end if that is earlier
pub record IsTallyOfRun (m : Meaning) (end to : ℕ) (word : Word) (t : Tally) : Type 0 where
  pub world : World
  pub upto : IsUpto m end (min to end) world
  pub tally : IsTally (values_of word world.log) t

-- The same on the way: the simulation has come to a world, and the tally has the values of all events
-- that it has handled, those that the world has forgotten and those of its log.
pub record HasTallied (m : Meaning) (bound : ℕ) (word : Word) (w : World) (t : Tally) : Type 0 where
  pub past : List Message
  pub passed : IsPassed m bound past w
  pub tally : IsTally (values_of word (past ++ w.log)) t

-- a value is at least `from` and below `to`
abbrev pub is_between : ℕ → ℕ → ℕ → Bool
is_between from to value = nat_le from value && nat_lt value to

-- how many of these values are
abbrev pub count_between : ℕ → ℕ → List ℕ → ℕ
count_between from to values = length (filter (is_between from to) values)

-- at most 50 bins of the same width from the least value on, which have all values, and how many
-- each has
pub record AreBins (values : List ℕ) (b : Bins) : Type 0 where
  pub few : length b.counts.items ≤ 50
  pub least : b.least ≡ least_of values
  pub most : greatest_of values < b.least + length b.counts.items * b.width
  pub each : (k : ℕ) → k < length b.counts.items →
      get_or b.counts.items k 0 ≡ count_between (b.least + k * b.width) (b.least + k * b.width + b.width) values
