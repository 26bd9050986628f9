use Rattle.std.proofs.Common.{flat_map}
use Rattle.eventkey.proofs.Writers.{writes_failed, writes_then}
use Rattle.pictures.specs.Turns.{turn_text}
use Rattle.pictures.proofs.turns.write_rows.Goals as goal

pub returns-in_err-write_names : goal.returns-in_err-write_names
returns-in_err-write_names g c =
    writes_failed c.from_residual.result (flat_map turn_text c.args.rows.now) c.write_names.ensures c.in_err-write_names.was c.from_residual.ensures.0

pub returns : goal.returns
returns g c = writes_then c.write_names.ensures c.in_ok-write_names.was c.write_turns.ensures
