use Rattle.std.proofs.Common.{codes}
use Rattle.eventkey.proofs.Writers.{writes_failed, writes_last, writes_no_more, writes_then, writes_whole, wrote}
use Rattle.program.proofs.version.write_version.Goals as goal

pub returns-in_err-write_text : goal.returns-in_err-write_text
returns-in_err-write_text g c =
    let failed = c.from_residual.ensures.0 in
    writes_no_more (codes "\n") (writes_no_more (codes "0.4.0 (disks of format 2)")
    (writes_failed c.from_residual.result (codes " ") c.write_text.ensures c.in_err-write_text.was failed) failed) failed

pub returns-in_err-write_text-2 : goal.returns-in_err-write_text-2
returns-in_err-write_text-2 g c =
    let failed = c.from_residual-in_err-write_text-2.ensures.0 in
    writes_no_more (codes "\n") (writes_failed c.from_residual-in_err-write_text-2.result (codes "0.4.0 (disks of format 2)")
    (writes_then c.write_text.ensures c.in_ok-write_text.was c.write_text-2.ensures) c.in_err-write_text-2.was failed) failed

pub returns-in_err-write_text-3 : goal.returns-in_err-write_text-3
returns-in_err-write_text-3 g c =
    writes_failed c.from_residual-in_err-write_text-3.result (codes "\n")
    (writes_then (writes_then c.write_text.ensures c.in_ok-write_text.was c.write_text-2.ensures) c.in_ok-write_text-2.was c.write_text-3.ensures)
    c.in_err-write_text-3.was c.from_residual-in_err-write_text-3.ensures.0

pub returns-in_err-write_text-4 : goal.returns-in_err-write_text-4
returns-in_err-write_text-4 g c =
    writes_last c.from_residual-in_err-write_text-4.result
    (writes_then (writes_then (writes_then c.write_text.ensures c.in_ok-write_text.was c.write_text-2.ensures) c.in_ok-write_text-2.was c.write_text-3.ensures)
    c.in_ok-write_text-3.was c.write_text-4.ensures)
    c.in_err-write_text-4.was c.from_residual-in_err-write_text-4.ensures.0

pub returns : goal.returns
returns g c =
    writes_whole (g.O.Write.contents c.args.out.now) (g.O.Write.contents c.write_text-4.new.out) (g.O.Write.contents c.flush.new.self) _ c.flush.result
    (wrote (writes_then (writes_then (writes_then c.write_text.ensures c.in_ok-write_text.was c.write_text-2.ensures) c.in_ok-write_text-2.was c.write_text-3.ensures)
    c.in_ok-write_text-3.was c.write_text-4.ensures) c.in_ok-write_text-4.was)
    c.flush.ensures.bytes
