use Rattle.eventkey.proofs.Writers.{writes_failed, writes_then}
use Rattle.upkeep.specs.Text.{seals_text}
use Rattle.upkeep.proofs.inspection.writing.write_records.Goals as goal

pub returns-in_err-write_kinds : goal.returns-in_err-write_kinds
returns-in_err-write_kinds g c = writes_failed c.from_residual.result (seals_text c.args.shown.now) c.write_kinds.ensures c.in_err-write_kinds.was c.from_residual.ensures.0

pub returns : goal.returns
returns g c = writes_then c.write_kinds.ensures c.in_ok-write_kinds.was c.write_seals.ensures
