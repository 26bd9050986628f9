use Rattle.eventkey.proofs.Writers.{writes_as}
use Rattle.upkeep.proofs.Lines.{no_event, some_event}
use Rattle.upkeep.proofs.inspection.writing.write_events.Goals as goal

pub returns-then-shown-eq0 : goal.returns-then-shown-eq0
returns-then-shown-eq0 g c = writes_as c.write_line.ensures (no_event c.args.shown.now c.if-shown-eq0.true)

pub returns : goal.returns
returns g c = writes_as c.write_line-2.ensures (some_event c.args.shown.now c.bytes_each-each.result c.if-shown-eq0.false c.bytes_each-each.ensures)
