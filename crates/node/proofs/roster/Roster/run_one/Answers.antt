use Rattle.std.proofs.Common.{◌≡◌, ◌∙◌, ◌/◌, ℕ, List, false, rules, Ok, Err, ap, sym}
use Rattle.std.proofs.lemmas.Bool.{both_ways}
use Rattle.std.proofs.lemmas.Result.{err_from_is_err_and}
use Rattle.node.proofs.Seats.{length-summaries, place_inside}
use Rattle.node.proofs.Histories.{modelled_again, modelled_at}
use Rattle.node.proofs.Turns.{IsHandled, IsTurn, has_run, lacks_room, on_turn, room_here, run_fault, has_room_then, turn_place, turn_ready, turn_work}
use Rattle.node.proofs.Deliveries.{working}
use Rattle.node.proofs.Runs.{same_err}
use Rattle.node.specs.Fault.{fault_of}
use Rattle.node.specs.Node.{here}
use Rattle.node.specs.Roster.{Place, place_of, processes_of}
use Rattle.node.specs.declared.summary.Summary.{Summary}
use Rattle.process.specs.Process.{has_room}
use Rattle.process.specs.View.{LacksRoom, ProcessView}
use Rattle.process.specs.declared.ProcessFault.{ProcessFault}
use Rattle.eventkey.specs.Message.{Message}
use Rattle.eventkey.specs.declared.Signed.{Signed}
use Rattle.model.specs.Meaning.{Meaning}
use Rattle.process.specs.declared.ProcessFault.TheVariants.{NumberLimit}
use Rattle.node.proofs.roster.Roster.run_one.Given.{Over}
use Rattle.node.proofs.roster.Roster.run_one.Goals as goal

pub index_mut-process-requires : goal.index_mut-process-requires
index_mut-process-requires g c =
    let at = turn_place (place_of c.args.self.now) c.args.self.now.processes.items c.args.self.now.summaries c.args.message.now c.requires.ready c.requires.least in
    let inside = place_inside (place_of c.args.self.now) c.args.self.now.processes.items c.args.self.now.summaries c.args.message.now.to c.requires.ready at.0 at.1 in
    rw c.to.ensures (search (rules, inside))

pub run_one-requires-clause-lp : goal.run_one-requires-clause-lp
run_one-requires-clause-lp g c =
    let t = on_turn (place_of c.args.self.now) c.args.self.now.processes.items c.args.self.now.summaries c.args.message.now c.to.result c.index_mut-process.result.now
    (record { lp_is = c.to.ensures; staffed = c.requires.ready; least = c.requires.least; read = c.index_mut-process.ensures.value }) in
    rw (t.at.lp_is, c.requires.lps) t.there

pub returns-in_err-run_one-clause-causes : goal.returns-in_err-run_one-clause-causes
returns-in_err-run_one-clause-causes g c ran =
    let turn : IsTurn (place_of c.args.self.now) c.args.self.now.processes.items c.args.self.now.summaries c.args.message.now c.to.result c.index_mut-process.result.now =
    record { lp_is = c.to.ensures; staffed = c.requires.ready; least = c.requires.least; read = c.index_mut-process.ensures.value } in
    let t = on_turn (place_of c.args.self.now) c.args.self.now.processes.items c.args.self.now.summaries c.args.message.now c.to.result c.index_mut-process.result.now turn in
    let here = room_here (g.M.Model.meaning c.args.model.now) (place_of c.args.self.now) c.args.self.now.processes.items c.args.self.now.summaries c.args.message.now c.to.result c.index_mut-process.result.now c.args.out.now.items ran turn in
    let p = err_from_is_err_and c.from_residual.result c.from_residual.ensures.1 in
    rw (p.1, p.2)
    (run_fault _ c.in_err-run_one.field-0.0
    (λ e. c.in_err-run_one.ensures.causes.mine (ap Err e))
    (λ e. c.in_err-run_one.ensures.causes.from_floor (ap Err e))
    (λ e. here ∙ lacks_room (g.M.Model.meaning c.args.model.now) c.args.self.now.end c.args.message.now c.index_mut-process.result.now.process t.next (c.in_err-run_one.ensures.causes.limit.0 (ap Err e)).1)
    (λ e. both_ways c.index_mut-process.result.now.spent t.at.seated.unspent (c.in_err-run_one.ensures.causes.spent.0 (ap Err e))))

pub set-requires-clause-inside : goal.set-requires-clause-inside
set-requires-clause-inside g c =
    let at = turn_place (place_of c.args.self.now) c.args.self.now.processes.items c.args.self.now.summaries c.args.message.now c.requires.ready c.requires.least in
    rw (c.to.ensures, length-summaries (place_of c.args.self.now) c.args.self.now.processes.items c.args.self.now.summaries c.requires.ready)
    (place_inside (place_of c.args.self.now) c.args.self.now.processes.items c.args.self.now.summaries c.args.message.now.to c.requires.ready at.0 at.1)

handled : (g : Over) (c : goal.After-set g) → IsTurn (place_of c.args.self.now) c.args.self.now.processes.items c.args.self.now.summaries c.args.message.now c.to.result c.index_mut-process.result.now →
    IsHandled (g.M.Model.meaning c.args.model.now) c.args.message.now c.index_mut-process.result.now c.run_one.new.self c.args.out.now.items c.run_one.new.out.items
handled g c turn =
    has_run (g.M.Model.meaning c.args.model.now) c.args.self.now.end c.args.message.now c.index_mut-process.result.now c.run_one.new.self c.args.out.now.items c.run_one.new.out.items c.in_ok-run_one.field-0
    (on_turn (place_of c.args.self.now) c.args.self.now.processes.items c.args.self.now.summaries c.args.message.now c.to.result c.index_mut-process.result.now turn).next
    (λ e. c.in_ok-run_one.ensures.ran (ap Ok e))
    (λ e. (c.in_ok-run_one.ensures.idle.0 (ap Ok e)).1)

pub returns-clause-ready : goal.returns-clause-ready
returns-clause-ready g c =
    let turn : IsTurn (place_of c.args.self.now) c.args.self.now.processes.items c.args.self.now.summaries c.args.message.now c.to.result c.index_mut-process.result.now =
    record { lp_is = c.to.ensures; staffed = c.requires.ready; least = c.requires.least; read = c.index_mut-process.ensures.value } in
    rw c.set.ensures
    (turn_ready (g.M.Model.meaning c.args.model.now) (place_of c.args.self.now) c.args.self.now.processes.items c.args.self.now.summaries c.args.message.now c.to.result c.index_mut-process.result.now c.run_one.new.self c.args.out.now.items c.run_one.new.out.items c.of-summary.result
    turn (handled g c turn) c.of-summary.ensures.summary)

pub returns-clause-work : goal.returns-clause-work
returns-clause-work g c ran =
    let turn : IsTurn (place_of c.args.self.now) c.args.self.now.processes.items c.args.self.now.summaries c.args.message.now c.to.result c.index_mut-process.result.now =
    record { lp_is = c.to.ensures; staffed = c.requires.ready; least = c.requires.least; read = c.index_mut-process.ensures.value } in
    turn_work (g.M.Model.meaning c.args.model.now) (place_of c.args.self.now) c.args.self.now.processes.items c.args.self.now.summaries c.args.message.now c.to.result c.index_mut-process.result.now c.run_one.new.self c.args.out.now.items c.run_one.new.out.items ran
    turn (handled g c turn)

pub returns-clause-room : goal.returns-clause-room
returns-clause-room g c ran =
    let turn : IsTurn (place_of c.args.self.now) c.args.self.now.processes.items c.args.self.now.summaries c.args.message.now c.to.result c.index_mut-process.result.now =
    record { lp_is = c.to.ensures; staffed = c.requires.ready; least = c.requires.least; read = c.index_mut-process.ensures.value } in
    let t = on_turn (place_of c.args.self.now) c.args.self.now.processes.items c.args.self.now.summaries c.args.message.now c.to.result c.index_mut-process.result.now turn in
    room_here (g.M.Model.meaning c.args.model.now) (place_of c.args.self.now) c.args.self.now.processes.items c.args.self.now.summaries c.args.message.now c.to.result c.index_mut-process.result.now c.args.out.now.items ran turn
    ∙ has_room_then (g.M.Model.meaning c.args.model.now) c.args.self.now.end c.args.message.now c.index_mut-process.result.now.process t.next (λ lacks. (let refused : Ok c.in_ok-run_one.field-0 ≡ Err NumberLimit = c.in_ok-run_one.ensures.causes.limit.1 (t.at.seated.unspent, lacks) in cc))

lacks : (m : Meaning) (p : Place) (seats : List ProcessView) (summaries : List Summary) (x : Message) (lp : ℕ) (q : ProcessView) (out : List Signed) (ran : ℕ) → IsTurn p seats summaries x lp q →
    has_room m x (here p.nodes (working (processes_of seats) out ran) x.to) ≡ false → LacksRoom m p.end q.process
lacks m p seats summaries x lp q out ran turn none = record {
  message = x;
  next = (on_turn p seats summaries x lp q turn).next;
  room = sym (room_here m p seats summaries x lp q out ran turn) ∙ none;
}

pub returns-in_err-run_one-clause-limit : goal.returns-in_err-run_one-clause-limit
returns-in_err-run_one-clause-limit g c ran none =
    let turn : IsTurn (place_of c.args.self.now) c.args.self.now.processes.items c.args.self.now.summaries c.args.message.now c.to.result c.index_mut-process.result.now =
    record { lp_is = c.to.ensures; staffed = c.requires.ready; least = c.requires.least; read = c.index_mut-process.ensures.value } in
    let t = on_turn (place_of c.args.self.now) c.args.self.now.processes.items c.args.self.now.summaries c.args.message.now c.to.result c.index_mut-process.result.now turn in
    let limit = c.in_err-run_one.ensures.causes.limit.1 (
      t.at.seated.unspent,
      lacks (g.M.Model.meaning c.args.model.now) (place_of c.args.self.now) c.args.self.now.processes.items c.args.self.now.summaries c.args.message.now c.to.result c.index_mut-process.result.now c.args.out.now.items ran turn none,
    ) in
    let p = err_from_is_err_and c.from_residual.result c.from_residual.ensures.1 in
    rw (p.1, p.2) (ap (λ (fault : ProcessFault). Err (fault_of fault)) (same_err limit))

pub returns-clause-limit : goal.returns-clause-limit
returns-clause-limit g c ran none =
    let turn : IsTurn (place_of c.args.self.now) c.args.self.now.processes.items c.args.self.now.summaries c.args.message.now c.to.result c.index_mut-process.result.now =
    record { lp_is = c.to.ensures; staffed = c.requires.ready; least = c.requires.least; read = c.index_mut-process.ensures.value } in
    let t = on_turn (place_of c.args.self.now) c.args.self.now.processes.items c.args.self.now.summaries c.args.message.now c.to.result c.index_mut-process.result.now turn in
    let refused : Ok c.in_ok-run_one.field-0 ≡ Err NumberLimit = c.in_ok-run_one.ensures.causes.limit.1 (
      t.at.seated.unspent,
      lacks (g.M.Model.meaning c.args.model.now) (place_of c.args.self.now) c.args.self.now.processes.items c.args.self.now.summaries c.args.message.now c.to.result c.index_mut-process.result.now c.args.out.now.items ran turn none,
    ) in
    absurd (cc)

pub returns-clause-modelled : goal.returns-clause-modelled
returns-clause-modelled g c modelled =
    let m = g.M.Model.meaning c.args.model.now in
    let turn : IsTurn (place_of c.args.self.now) c.args.self.now.processes.items c.args.self.now.summaries c.args.message.now c.to.result c.index_mut-process.result.now =
    record { lp_is = c.to.ensures; staffed = c.requires.ready; least = c.requires.least; read = c.index_mut-process.ensures.value } in
    let t = on_turn (place_of c.args.self.now) c.args.self.now.processes.items c.args.self.now.summaries c.args.message.now c.to.result c.index_mut-process.result.now turn in
    let place = turn_place (place_of c.args.self.now) c.args.self.now.processes.items c.args.self.now.summaries c.args.message.now c.requires.ready c.requires.least in
    let inside = place_inside (place_of c.args.self.now) c.args.self.now.processes.items c.args.self.now.summaries c.args.message.now.to c.requires.ready place.0 place.1 in
    let was = modelled_at m c.args.self.now.processes.items modelled (c.to.result / c.args.self.now.nodes) c.index_mut-process.result.now (rw c.to.ensures inside) c.index_mut-process.ensures.value in
    modelled_again m c.args.self.now.processes.items modelled (c.to.result / c.args.self.now.nodes) c.index_mut-process.result.now c.run_one.new.self was c.in_ok-run_one.ensures.kept
    (ap (λ (v : ProcessView). v.spent) (handled g c turn).process ∙ t.at.seated.unspent)
