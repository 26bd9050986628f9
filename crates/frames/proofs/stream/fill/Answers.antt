use Rattle.std.proofs.Common.{rules}
use Rattle.frames.proofs.Filling.{fill_kept, fill_more, fill_stopped}
use Rattle.frames.proofs.stream.fill.Goals as goal
use Rattle.frames.proofs.stream.fill.Goals.{in-Ok, in-Err+else-ne}

pub loop-preserved : goal.loop-preserved
loop-preserved g c = elim c.match-read.branch [
  | in-Ok w ↦ rw w.filled-is (search rules, search rules, fill_more _ _ _ c.loop.filled _ w.in-Ok.count c.loop.buffer c.read.new.buf c.loop.invariant.1 w.in-Ok.ensures.bound.0 c.loop.invariant.2 w.in-Ok.ensures.bytes.0)
  | in-Err+else-ne w ↦ rw w.filled-is (search rules, search rules, fill_kept _ _ _ c.loop.filled _ c.loop.buffer c.read.new.buf c.loop.invariant.1 c.loop.invariant.2 w.in-Err.ensures.bytes)
]

pub returns-then-ne-clause-err : goal.returns-then-ne-clause-err
returns-then-ne-clause-err g c = fill_stopped _ _ _ c.loop.filled _ c.loop.buffer c.read.new.buf c.loop.invariant.1 c.loop.invariant.2 c.in-Err.ensures.bytes
