-- Summaries of processes, and their times in lists beside them.
use Rattle.std.specs.Prelude.{ℕ, List, Option, false, get_or, map, ◌≡◌, ◌≤◌, ◌<◌}
use Rattle.node.specs.Seats.{is_due}
use Rattle.node.specs.Times.{ticks_of}
use Rattle.node.specs.Tournament.{IsLowInRange, absent}
use Rattle.node.specs.declared.summary.Summary.{Summary}

abbrev pub lows_of : List Summary → List ℕ
lows_of summaries = map (λ (s : Summary). ticks_of s.low) summaries

abbrev pub oldest_of : List Summary → List ℕ
oldest_of summaries = map (λ (s : Summary). ticks_of s.oldest) summaries

-- these are the times of these summaries
pub record AreBlocks (summaries : List Summary) (lows oldest : List ℕ) : Type 0 where
  pub lows_are : lows ≡ lows_of summaries
  pub oldest_are : oldest ≡ oldest_of summaries
  pub ranged : (k : ℕ) → IsLowInRange (get_or summaries k absent)

-- the summary with another oldest time
abbrev pub with_oldest : Option ℕ → Summary → Summary
with_oldest oldest s = record s { oldest = oldest }

-- no place, from one on and before another, has a handling below the floor
abbrev pub IsQuietFrom : ℕ → List Summary → ℕ → ℕ → Type 0
IsQuietFrom floor summaries from to =
    (k : ℕ) → from ≤ k → k < to → is_due floor (get_or summaries k absent).oldest ≡ false
