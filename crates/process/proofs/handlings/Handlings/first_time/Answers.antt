use Rattle.std.proofs.Common.{◌∙◌}
use Rattle.process.proofs.HandlingBytes.{time_first}
use Rattle.process.proofs.handlings.Handlings.first_time.Goals as goal

pub returns : goal.returns
returns c = c.time_in.ensures ∙ time_first c.args.self.now _ c.parts.ensures.ranged c.parts.ensures.bytes
