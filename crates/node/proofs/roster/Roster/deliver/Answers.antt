use Rattle.std.proofs.Common.{rules, ◌∙◌, ◌/◌, Err, false, ap, sym, arith}
use Rattle.std.proofs.lemmas.Bool.{both_ways}
use Rattle.std.proofs.lemmas.Result.{err_from_is_err_and}
use Rattle.node.proofs.Deliveries.{at_of, deliver_ready, deliver_work, memory_left, own_parts}
use Rattle.node.proofs.Histories.{modelled_again, modelled_at}
use Rattle.node.proofs.Seats.{length-summaries, place_inside}
use Rattle.node.specs.Roster.{node_of_roster, place_of}
use Rattle.process.specs.View.{ProcessView}
use Rattle.node.proofs.roster.Roster.deliver.Goals as goal

pub index_mut-process-requires : goal.index_mut-process-requires
index_mut-process-requires c =
    let own = own_parts (node_of_roster false c.args.self.now) c.args.delivery.now.message.to c.requires.own in
    let inside = place_inside (place_of c.args.self.now) c.args.self.now.processes.items c.args.self.now.summaries c.args.delivery.now.message.to c.requires.ready own.0 own.1 in
    rw c.to.ensures (search (rules, inside))

pub returns-in_err-deliver-clause-memory : goal.returns-in_err-deliver-clause-memory
returns-in_err-deliver-clause-memory c =
    let own = own_parts (node_of_roster false c.args.self.now) c.args.delivery.now.message.to c.requires.own in
    let at = at_of (place_of c.args.self.now) c.args.self.now.processes.items c.args.self.now.summaries c.args.delivery.now c.to.result c.index_mut-process.result.now (record { lp_is = c.to.ensures; staffed = c.requires.ready; node = own.0; there = own.1; read = c.index_mut-process.ensures.value }) in
    let p = err_from_is_err_and c.from_residual.result c.from_residual.ensures.1 in
    rw (p.1, p.2)
    (memory_left c.in_err-deliver.field-0.0
    (λ e. (c.in_err-deliver.ensures.causes.not_mine.0 (ap Err e)).1 (sym at.lp_is))
    (λ e. (let early = (c.in_err-deliver.ensures.causes.below_floor.0 (ap Err e)).2 in let floor = at.seated.from_floor in let late = c.requires.late in omega arith))
    (λ e. c.in_err-deliver.ensures.causes.unlimited (ap Err e))
    (λ e. both_ways c.index_mut-process.result.now.spent at.seated.unspent (c.in_err-deliver.ensures.causes.spent.0 (ap Err e))))

pub set-requires-clause-inside : goal.set-requires-clause-inside
set-requires-clause-inside c =
    let own = own_parts (node_of_roster false c.args.self.now) c.args.delivery.now.message.to c.requires.own in
    rw (c.to.ensures, length-summaries (place_of c.args.self.now) c.args.self.now.processes.items c.args.self.now.summaries c.requires.ready)
    (place_inside (place_of c.args.self.now) c.args.self.now.processes.items c.args.self.now.summaries c.args.delivery.now.message.to c.requires.ready own.0 own.1)

pub returns-clause-ready : goal.returns-clause-ready
returns-clause-ready c =
    let own = own_parts (node_of_roster false c.args.self.now) c.args.delivery.now.message.to c.requires.own in
    rw c.set.ensures
    (deliver_ready (place_of c.args.self.now) c.args.self.now.processes.items c.args.self.now.summaries c.args.delivery.now c.to.result c.index_mut-process.result.now c.deliver.new.self c.of-summary.result
    (record { lp_is = c.to.ensures; staffed = c.requires.ready; node = own.0; there = own.1; read = c.index_mut-process.ensures.value }) c.in_ok-deliver.ensures.delivered.process c.of-summary.ensures.summary)

pub returns-clause-work : goal.returns-clause-work
returns-clause-work c ran =
    let own = own_parts (node_of_roster false c.args.self.now) c.args.delivery.now.message.to c.requires.own in
    deliver_work (place_of c.args.self.now) c.args.self.now.processes.items c.args.self.now.summaries c.args.delivery.now c.to.result c.index_mut-process.result.now c.deliver.new.self c.args.out.now.items c.deliver.new.out.items ran
    (record { lp_is = c.to.ensures; staffed = c.requires.ready; node = own.0; there = own.1; read = c.index_mut-process.ensures.value }) c.in_ok-deliver.ensures.delivered.process c.in_ok-deliver.ensures.delivered.out

pub returns-clause-modelled : goal.returns-clause-modelled
returns-clause-modelled c m modelled =
    let own = own_parts (node_of_roster false c.args.self.now) c.args.delivery.now.message.to c.requires.own in
    let at = at_of (place_of c.args.self.now) c.args.self.now.processes.items c.args.self.now.summaries c.args.delivery.now c.to.result c.index_mut-process.result.now (record { lp_is = c.to.ensures; staffed = c.requires.ready; node = own.0; there = own.1; read = c.index_mut-process.ensures.value }) in
    let inside = place_inside (place_of c.args.self.now) c.args.self.now.processes.items c.args.self.now.summaries c.args.delivery.now.message.to c.requires.ready own.0 own.1 in
    let was = modelled_at m c.args.self.now.processes.items modelled (c.to.result / c.args.self.now.nodes) c.index_mut-process.result.now (rw c.to.ensures inside) c.index_mut-process.ensures.value in
    modelled_again m c.args.self.now.processes.items modelled (c.to.result / c.args.self.now.nodes) c.index_mut-process.result.now c.deliver.new.self was (c.in_ok-deliver.ensures.kept m) (ap (λ (v : ProcessView). v.spent) c.in_ok-deliver.ensures.delivered.process ∙ at.seated.unspent)
