use Rattle.std.proofs.Common.{arith}
use Rattle.texts.proofs.mistakes.line_of.Goals as goal

pub line_at-requires : goal.line_at-requires
line_at-requires c = omega (arith, c.in-Some.ensures.range, c.requires.0, c.requires.1)

pub returns-in-Some : goal.returns-in-Some
returns-in-Some c = (c.in-Some.span.start, omega (arith, c.in-Some.ensures.range, c.requires.0, c.requires.1), c.line_at.ensures)
