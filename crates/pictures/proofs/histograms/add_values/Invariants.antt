use Rattle.std.proofs.Common.{ℕ, ◌++◌, List, take}
use Rattle.pictures.specs.Histograms.{values_of}
use Rattle.pictures.specs.Tallies.{IsTally}
use Rattle.pictures.proofs.histograms.add_values.Given as goal

abbrev pub invariant-loop-event : goal.invariant-loop-event
invariant-loop-event l = (values : List ℕ) → IsTally values l.initial.tally → IsTally (values ++ values_of l.word (take l.event-index l.events)) l.tally
