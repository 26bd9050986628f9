use Rattle.std.proofs.Common.{drop, flat_map}
use Rattle.eventkey.proofs.Writers.{HasWritten}
use Rattle.pictures.specs.Turns.{turn_text}
use Rattle.pictures.proofs.turns.write_turns.Given as goal

abbrev pub invariant-loop-row : goal.invariant-loop-row
invariant-loop-row g l = HasWritten (g.W.Write.contents l.initial.out) (g.W.Write.contents l.out) (flat_map turn_text l.rows) (flat_map turn_text (drop l.row-index l.rows))
