use Rattle.std.proofs.Common.{sym, ◌∙◌}
use Rattle.eventkey.proofs.Writers.{writes_as}
use Rattle.upkeep.proofs.Lines.{full, room}
use Rattle.upkeep.proofs.inspection.writing.write_pace.Goals as goal

pub returns-in-None : goal.returns-in-None
returns-in-None g c = writes_as c.write_line.ensures (room c.args.shown.now c.if-shown-eq0.false (sym c.in-None.is ∙ c.full_before_end.ensures))

pub returns-in-Some : goal.returns-in-Some
returns-in-Some g c = writes_as c.write_line-in-Some.ensures (full c.args.shown.now c.in-Some.time c.if-shown-eq0.false (sym c.in-Some.is ∙ c.full_before_end.ensures))
