use Rattle.std.proofs.Common.{drop, flat_map}
use Rattle.eventkey.proofs.Writers.{HasWritten}
use Rattle.pictures.specs.Drawing.{mark_numbers, marks_text}
use Rattle.pictures.specs.Filled.{filled}
use Rattle.pictures.proofs.drawn.write_marks.Given as goal

abbrev pub invariant-loop-sending : goal.invariant-loop-sending
invariant-loop-sending g l =
    HasWritten (g.W.Write.contents l.initial.out) (g.W.Write.contents l.out) (marks_text l.frame l.text l.skip l.sendings)
    (flat_map (λ s. filled l.text (drop l.skip (mark_numbers l.frame s))) (drop l.sending-index l.sendings))
