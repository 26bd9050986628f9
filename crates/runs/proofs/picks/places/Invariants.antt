use Rattle.std.proofs.Common.{◌≡◌, ◌++◌, drop}
use Rattle.runs.specs.Driver.{places_for}
use Rattle.runs.proofs.picks.places.Given as goal

abbrev pub invariant-transit : goal.invariant-transit
invariant-transit l = l.places.items ++ places_for l.nodes l.node l.place (drop l.place l.transit) ≡ places_for l.nodes l.node 0 l.transit
