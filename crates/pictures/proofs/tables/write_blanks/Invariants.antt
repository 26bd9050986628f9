use Rattle.std.proofs.Common.{◌-◌, replicate}
use Rattle.eventkey.proofs.Writers.{HasWritten}
use Rattle.pictures.proofs.tables.write_blanks.Given as goal

abbrev pub invariant-loop : goal.invariant-loop
invariant-loop g l = HasWritten (g.W.Write.contents l.initial.out) (g.W.Write.contents l.out) (replicate l.count 32) (replicate (l.count - l.counter) 32)
