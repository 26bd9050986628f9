use Rattle.std.specs.declared.num.ParseIntError.{ParseIntError}
use Rattle.cli.proofs.Readings.{number_written, none_written}
use Rattle.cli.proofs.values.written_number.Goals as goal

pub returns-in-Ok : goal.returns-in-Ok
returns-in-Ok c = number_written ParseIntError c.args.text.now c.in-Ok.number c.in-Ok.ensures.value.0

pub returns-in-Err : goal.returns-in-Err
returns-in-Err c = none_written ParseIntError c.args.text.now c.in-Err.field-0 c.in-Err.ensures.value.0
