use Rattle.std.proofs.Common.{drop, flat_map}
use Rattle.eventkey.proofs.Writers.{HasWritten}
use Rattle.pictures.specs.Tables.{right}
use Rattle.pictures.proofs.tables.write_row.Given as goal

abbrev pub invariant-loop-number : goal.invariant-loop-number
invariant-loop-number g l = HasWritten (g.W.Write.contents l.initial.out) (g.W.Write.contents l.out) (flat_map right l.numbers) (flat_map right (drop l.number-index l.numbers))
