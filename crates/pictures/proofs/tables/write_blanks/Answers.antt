use Rattle.std.proofs.Common.{arith, replicate, ◌+◌, ◌-◌}
use Rattle.eventkey.proofs.Writers.{writes_broken, written_next}
use Rattle.pictures.proofs.Pieces.{blanks_more}
use Rattle.pictures.proofs.tables.write_blanks.Goals as goal

pub returns-in_err-write_text : goal.returns-in_err-write_text
returns-in_err-write_text g c =
    writes_broken (replicate (c.args.count - (c.loop.counter + 1)) 32) c.from_residual.result c.loop.invariant (blanks_more c.args.count c.loop.counter (omega arith))
    c.write_text.ensures c.in_err-write_text.was c.from_residual.ensures.0

pub loop-preserved : goal.loop-preserved
loop-preserved g c =
    written_next (replicate (c.args.count - (c.loop.counter + 1)) 32) c.loop.invariant (blanks_more c.args.count c.loop.counter (omega arith)) c.write_text.ensures c.in_ok-write_text.was
