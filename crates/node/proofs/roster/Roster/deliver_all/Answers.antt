use Rattle.std.proofs.Common.{◌∙◌, ap}
use Rattle.node.proofs.Deliveries.{deliveries_go_on, still_accepted}
use Rattle.node.specs.Roster.{Place, place_of, processes_of, work_of}
use Rattle.node.proofs.roster.Roster.deliver_all.Goals as goal

pub loop-delivery-preserved : goal.loop-delivery-preserved
loop-delivery-preserved c = record {
  ready = c.in_ok-deliver.ensures.ready;
  modelled = λ m modelled. c.in_ok-deliver.ensures.modelled m (c.loop-delivery.invariant.modelled m modelled);
  place = c.in_ok-deliver.ensures.place ∙ c.loop-delivery.invariant.place;
  accepted = still_accepted (place_of c.loop-delivery.self) (place_of c.deliver.new.self) (processes_of c.loop-delivery.self.processes.items) (processes_of c.deliver.new.self.processes.items) c.args.deliveries.now c.loop-delivery.delivery-index c.delivery-item.result c.loop-delivery-test.true c.delivery-item.is
      c.in_ok-deliver.ensures.place c.loop-delivery.invariant.accepted;
  work = λ ran. deliveries_go_on c.args.self.now.nodes c.loop-delivery.self.nodes c.args.deliveries.now c.loop-delivery.delivery-index c.delivery-item.result (work_of c.loop-delivery.self c.loop-delivery.out.items ran) (work_of c.deliver.new.self c.deliver.new.out.items ran) _
      c.loop-delivery-test.true c.delivery-item.is (ap (λ (p : Place). p.nodes) c.loop-delivery.invariant.place) (c.in_ok-deliver.ensures.work ran) (c.loop-delivery.invariant.work ran);
}
