use Rattle.std.proofs.Common.{arith}
use Rattle.std.specs.declared.num.ParseIntError.{ParseIntError}
use Rattle.cli.proofs.Readings.{none_tested, number_above, number_below}
use Rattle.cli.proofs.values.is_number.Goals as goal

pub returns-then-least-number : goal.returns-then-least-number
returns-then-least-number c = number_above ParseIntError c.args.least c.args.most c.args.text.now c.in-Ok.number c.in-Ok.ensures.value.0 c.if-least-number.true

pub returns-else-least-number : goal.returns-else-least-number
returns-else-least-number c = number_below ParseIntError c.args.least c.args.most c.args.text.now c.in-Ok.number c.in-Ok.ensures.value.0 (omega (arith, c.if-least-number.false))

pub returns-in-Err : goal.returns-in-Err
returns-in-Err c = none_tested ParseIntError c.args.least c.args.most c.args.text.now c.in-Err.field-0 c.in-Err.ensures.value.0
