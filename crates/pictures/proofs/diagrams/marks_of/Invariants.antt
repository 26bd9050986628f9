use Rattle.std.proofs.Common.{take}
use Rattle.pictures.specs.Drawing.{AreMarks}
use Rattle.pictures.proofs.diagrams.marks_of.Given as goal

abbrev pub invariant-loop-sending : goal.invariant-loop-sending
invariant-loop-sending l = AreMarks l.frame l.before (take l.sending-index l.sendings) l.marks
