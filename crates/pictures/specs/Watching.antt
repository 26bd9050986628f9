-- What a look at a process after an event does to the levels of its named numbers.
use Rattle.std.specs.Prelude.{ℕ, ◌≡◌, ◌<◌, List, get_or, length}
use Rattle.pictures.specs.Levels.{HasSet}
use Rattle.pictures.specs.declared.levels.Level.{Level}
use Rattle.texts.specs.Names.{number_of}
use Rattle.texts.specs.declared.names.Column.{Column}

-- the number that a column has in a state
abbrev pub number_in : Column → List ℕ → ℕ
number_in c state = number_of c.place c.shift c.bits state

-- each column's level is set, from this time on, to its number in the state
pub record HaveSet (columns : List Column) (time : ℕ) (state : List ℕ) (old new : List Level)
    : Type 0 where
  pub long : length new ≡ length old
  pub each : (k : ℕ) (c : Column) (l : Level) → k < length columns → k < length old →
      HasSet time (number_in (get_or columns k c) state) (get_or old k l) (get_or new k l)
