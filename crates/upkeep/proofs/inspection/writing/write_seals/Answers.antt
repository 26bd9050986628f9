use Rattle.eventkey.proofs.Writers.{writes_as}
use Rattle.upkeep.proofs.Lines.{some_seal}
use Rattle.upkeep.proofs.inspection.writing.write_seals.Goals as goal

pub returns : goal.returns
returns g c = writes_as c.write_line.ensures (some_seal c.args.shown.now c.if-shown-eq0.false)
