use Rattle.frames.proofs.Beginnings.{serve_cut_short, serve_ended, serve_loaded, serve_node_refused, serve_not_read, serve_refused}
use Rattle.frames.proofs.Places.{found_as}
use Rattle.frames.proofs.Reacting.{begins_as}
use Rattle.eventkey.proofs.Writers.{appended_as, begun_as}
use Rattle.frames.proofs.node_loop.serve.Goals as goal

pub returns-in_err-raw : goal.returns-in_err-raw
returns-in_err-raw g c = serve_not_read _ _ _ _ _ c.in_err-raw.field-0.0 c.from_residual.result c.from_residual.ensures.1 c.in_err-raw.ensures

pub returns-in_default : goal.returns-in_default
returns-in_default g c = serve_ended _ _ _ _ _ (found_as _ _ _ _ c.in_default.is c.in_ok-raw.ensures)

pub returns-in_err-node : goal.returns-in_err-node
returns-in_err-node g c =
    serve_refused _ _ _ _ _ c.in-Some.raw c.in_err-node.field-0.0 c.from_residual-in_err-node.result c.from_residual-in_err-node.ensures.1 (found_as _ _ _ _ c.in-Some.is c.in_ok-raw.ensures)
    c.in_err-node.ensures.begins

pub returns-in-Loaded : goal.returns-in-Loaded
returns-in-Loaded g c =
    serve_loaded _ _ _ _ _ _ _ c.in-Some.raw c.in-Loaded.node c.serve_parcels.result (found_as _ _ _ _ c.in-Some.is c.in_ok-raw.ensures)
    (begins_as _ _ _ _ c.in-Loaded.is c.in_ok-node.ensures.begins) c.serve_parcels.ensures

pub returns-in_err-write_all-in-Refused : goal.returns-in_err-write_all-in-Refused
returns-in_err-write_all-in-Refused g c =
    serve_cut_short _ _ _ _ _ _ c.in-Some.raw c.in-Refused.frame c.from_residual-in_err-write_all-in-Refused.result c.from_residual-in_err-write_all-in-Refused.ensures.1
    (found_as _ _ _ _ c.in-Some.is c.in_ok-raw.ensures) (begins_as _ _ _ _ c.in-Refused.is c.in_ok-node.ensures.begins)
    (begun_as _ _ _ _ c.as_slice.ensures c.in_err-write_all-in-Refused.ensures.part)

pub returns : goal.returns
returns g c =
    serve_node_refused _ _ _ _ _ _ c.in-Some.raw c.in-Refused.frame (found_as _ _ _ _ c.in-Some.is c.in_ok-raw.ensures) (begins_as _ _ _ _ c.in-Refused.is c.in_ok-node.ensures.begins)
    (appended_as _ _ _ _ c.as_slice.ensures c.in_ok-write_all-in-Refused.ensures.all)
