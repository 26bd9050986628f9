-- An ascending list in two parts: the least messages, at hand and kept greatest first, and a bag of
-- the others.
use Rattle.std.specs.Prelude.{List, ◌++◌, ◌<◌, ◌≤◌, length, reverse}
use Rattle.eventkey.specs.Bag.{IsAscending}
use Rattle.eventkey.specs.Message.{Message}

abbrev pub both : List Message → List Message → List Message
both near far = reverse near ++ far

-- no message at hand is greater than one of the others; if there are others, some message is at
-- hand; at most 32 are at hand
pub record IsSplit (near far : List Message) : Type 0 where
  pub ascending : IsAscending (both near far)
  pub some : 0 < length far → 0 < length near
  pub few : length near ≤ 32
