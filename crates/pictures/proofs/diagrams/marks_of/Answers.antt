use Rattle.pictures.proofs.diagrams.marks_of.Goals as goal

pub loop-sending-init : goal.loop-sending-init
loop-sending-init c = c.no_marks-marks.ensures c.args.frame.now c.args.before
