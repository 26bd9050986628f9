use Rattle.std.proofs.Common.{rules}
use Rattle.eventkey.proofs.Writers.{writes_as}
use Rattle.disk_commands.proofs.beginning.write_segment.Goals as goal

pub returns-clause-written : goal.returns-clause-written
returns-clause-written g c = writes_as (c.flushed.ensures.written _ _ c.write_made.ensures) (search rules)
