use Rattle.frames.proofs.Places.{found_as, turn_answered, turn_cut_short, turn_ended, turn_not_read, turn_refused}
use Rattle.eventkey.proofs.Writers.{appended_as, begun_as}
use Rattle.frames.proofs.node_loop.turn.Goals as goal

pub returns-in_err-raw-clause-known : goal.returns-in_err-raw-clause-known
returns-in_err-raw-clause-known g c = turn_not_read _ _ _ _ _ c.in_err-raw.field-0.0 c.from_residual.result c.from_residual.ensures.1 c.in_err-raw.ensures

pub returns-in_default-clause-known : goal.returns-in_default-clause-known
returns-in_default-clause-known g c = turn_ended _ _ _ _ _ (found_as _ _ _ _ c.in_default.is c.in_ok-raw.ensures)

pub returns-in_err-response-clause-known : goal.returns-in_err-response-clause-known
returns-in_err-response-clause-known g c =
    turn_refused _ _ _ _ (g.W.Write.contents c.args.writer.now) c.in-Some.raw _ _ c.in_err-response.field-0.0 c.from_residual-in_err-response.result c.from_residual-in_err-response.ensures.1
    (found_as _ _ _ _ c.in-Some.is c.in_ok-raw.ensures) c.in_err-response.ensures.known

pub returns-in_err-write_all-clause-known : goal.returns-in_err-write_all-clause-known
returns-in_err-write_all-clause-known g c =
    turn_cut_short _ _ _ _ _ c.in-Some.raw _ _ c.in_ok-response.response c.from_residual-in_err-write_all.result c.from_residual-in_err-write_all.ensures.1
    (found_as _ _ _ _ c.in-Some.is c.in_ok-raw.ensures) c.in_ok-response.ensures.known (begun_as _ _ _ _ c.as_slice.ensures c.in_err-write_all.ensures.part)

pub returns-clause-known : goal.returns-clause-known
returns-clause-known g c =
    turn_answered _ _ _ _ _ c.in-Some.raw _ _ c.in_ok-response.response (found_as _ _ _ _ c.in-Some.is c.in_ok-raw.ensures) c.in_ok-response.ensures.known
    (appended_as _ _ _ _ c.as_slice.ensures c.in_ok-write_all.ensures.all)
