use Rattle.std.proofs.Common.{[], ◌∷◌, ◌++◌, ◌∙◌, ap, arith, length, map, sym}
use Rattle.std.proofs.lemmas.List.{append_assoc}
use Rattle.std.specs.Vec.Iter.{into_iter_items}
use Rattle.frames.proofs.Alike.{judged_port_more, none_left}
use Rattle.frames.specs.Judged.{new_judge}
use Rattle.frames.proofs.judging.ports.judged_ports.Goals as goal

pub ports-preserved : goal.ports-preserved
ports-preserved g c =
    let so_far = c.ports.invariant in
    record {
      judged = judged_port_more c.args.model.now c.args.every c.ports.judged.items c.push.new.self.items c.noting.result c.ports.yielded c.in-Some.port so_far.judged
          c.in_ok-push.ensures.items (c.noting.ensures ∙ c.new.ensures);
      all = append_assoc c.ports.yielded (c.in-Some.port ∷ []) (into_iter_items c.next.new.self) ∙ ap (λ r. c.ports.yielded ++ r) (sym c.in-Some.ensures.steps.0) ∙ so_far.all;
      left =
          let was = so_far.left in
          let gone = c.in-Some.ensures.steps.1 in
          let short = ap length c.in-Some.ensures.steps.0 in
          omega arith;
    }

pub returns : goal.returns
returns g c =
    let so_far = c.ports.invariant in
    so_far.judged
    ∙ ap (map (λ p. new_judge c.args.model.now c.args.every p))
    (none_left c.ports.yielded (into_iter_items c.ports.port-iterator) _ so_far.all (sym so_far.left ∙ c.in-None.ensures.steps.0) ∙ c.into_iter-port-iterator.ensures.into_iter_gives.0)
