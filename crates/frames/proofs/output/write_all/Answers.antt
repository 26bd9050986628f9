use Rattle.eventkey.proofs.Writers.{written_kept, written_more}
use Rattle.frames.proofs.output.write_all.Goals as goal
use Rattle.frames.proofs.output.write_all.Goals.{in-Ok, in-Err+else-ne}

pub loop-preserved : goal.loop-preserved
loop-preserved g c = elim c.match-write.branch [
  | in-Ok w ↦ rw (w.rest-is, w.split_at.ensures.back) (written_more w.in-Ok.count c.loop.invariant w.in-Ok.ensures.bytes)
  | in-Err+else-ne w ↦ rw w.rest-is (written_kept c.loop.invariant w.in-Err.ensures.bytes)
]
