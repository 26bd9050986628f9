use Rattle.std.proofs.Common.{◌≡◌, Ok, Err, false, ap}
use Rattle.std.proofs.lemmas.Result.{err_from_is_err_and}
use Rattle.node.proofs.Handled.{answered, limited_then}
use Rattle.node.proofs.Lows.{low_reported}
use Rattle.node.proofs.Runs.{same_err}
use Rattle.node.specs.declared.NodeFault.TheVariants.{NumberLimit}
use Rattle.node.specs.Roster.{node_of_roster, place_of, processes_of}
use Rattle.node.proofs.roster.Roster.handle.Goals as goal

pub returns-clause-handled : goal.returns-clause-handled
returns-clause-handled g c =
    answered (g.M.Model.meaning c.args.model.now) c.args.parcel (place_of c.args.self.now) (place_of c.deliver_all.new.self) (place_of c.run.new.self)
    (processes_of c.args.self.now.processes.items) (processes_of c.deliver_all.new.self.processes.items) (processes_of c.run.new.self.processes.items)
    c.as_slice-2.result.now c.in_ok-out.out.items c.deliver_all.new.out.items c.run.new.out.items c.from_vec.result c.in_ok-ran.ran c.low.result c.in_ok-fossils.fossils (node_of_roster false c.collect.new.self)
    c.as_slice-2.ensures c.in_ok-out.ensures.items c.in_ok-deliver_all.ensures.place (c.in_ok-deliver_all.ensures.work 0) c.in_ok-ran.ensures.place c.in_ok-ran.ensures.work c.in_ok-fossils.ensures.node c.from_vec.ensures (low_reported (place_of c.collect.new.self) c.collect.new.self.processes.items c.collect.new.self.summaries c.low.result c.in_ok-fossils.ensures.ready c.low.ensures.low) c.in_ok-fossils.ensures.fossils

pub returns-clause-range : goal.returns-clause-range
returns-clause-range g c = record { low = c.low.ensures.range; fossils = c.in_ok-fossils.ensures.range }

pub returns-in_err-ran-clause-limit : goal.returns-in_err-ran-clause-limit
returns-in_err-ran-clause-limit g c empty some none =
    let now =
    limited_then (g.M.Model.meaning c.args.model.now) (place_of c.args.self.now) (place_of c.deliver_all.new.self) c.args.parcel.deliver c.as_slice-2.result.now (processes_of c.args.self.now.processes.items) (processes_of c.deliver_all.new.self.processes.items)
    c.in_ok-out.out.items c.deliver_all.new.out.items c.as_slice-2.ensures c.in_ok-out.ensures.items c.in_ok-deliver_all.ensures.place (c.in_ok-deliver_all.ensures.work 0) empty none
    in
    let p = err_from_is_err_and c.from_residual-in_err-ran.result c.from_residual-in_err-ran.ensures.1 in
    rw (p.1, p.2) (ap Err (same_err (c.in_err-ran.ensures.limit some now)))

pub returns-in_err-fossils-clause-limit : goal.returns-in_err-fossils-clause-limit
returns-in_err-fossils-clause-limit g c empty some none =
    let now =
    limited_then (g.M.Model.meaning c.args.model.now) (place_of c.args.self.now) (place_of c.deliver_all.new.self) c.args.parcel.deliver c.as_slice-2.result.now (processes_of c.args.self.now.processes.items) (processes_of c.deliver_all.new.self.processes.items)
    c.in_ok-out.out.items c.deliver_all.new.out.items c.as_slice-2.ensures c.in_ok-out.ensures.items c.in_ok-deliver_all.ensures.place (c.in_ok-deliver_all.ensures.work 0) empty none
    in
    let refused : Ok c.in_ok-ran.ran ≡ Err NumberLimit = c.in_ok-ran.ensures.limit some now in
    absurd (cc)

pub returns-clause-limit : goal.returns-clause-limit
returns-clause-limit g c empty some none =
    let now =
    limited_then (g.M.Model.meaning c.args.model.now) (place_of c.args.self.now) (place_of c.deliver_all.new.self) c.args.parcel.deliver c.as_slice-2.result.now (processes_of c.args.self.now.processes.items) (processes_of c.deliver_all.new.self.processes.items)
    c.in_ok-out.out.items c.deliver_all.new.out.items c.as_slice-2.ensures c.in_ok-out.ensures.items c.in_ok-deliver_all.ensures.place (c.in_ok-deliver_all.ensures.work 0) empty none
    in
    let refused : Ok c.in_ok-ran.ran ≡ Err NumberLimit = c.in_ok-ran.ensures.limit some now in
    absurd (cc)

pub returns-clause-modelled : goal.returns-clause-modelled
returns-clause-modelled g c modelled =
    let m = g.M.Model.meaning c.args.model.now in
    c.in_ok-fossils.ensures.modelled m (c.in_ok-ran.ensures.modelled (c.in_ok-deliver_all.ensures.modelled m modelled))
