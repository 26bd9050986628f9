use Rattle.std.proofs.Common.{◌≡◌, ◌≤◌, ◌∙◌, List, length, map, set, sym, ap, arith}
use Rattle.std.specs.List.{AllByRecursion as Every}
use Rattle.std.specs.Vec.Iter.{into_iter_items}
use Rattle.eventkey.specs.Message.{Message}
use Rattle.node.proofs.Loads.{all_seated, every_next, seats_more, seats_place}
use Rattle.node.specs.Handling.{IsInRange}
use Rattle.node.specs.Seats.{standings_of, seat_of}
use Rattle.node.specs.declared.Part.{Part}
use Rattle.node.proofs.node.seat_all.Goals as goal

pub seated-requires-clause-range : goal.seated-requires-clause-range
seated-requires-clause-range c =
    every_next IsInRange c.args.parts.items c.loop-part.yielded (into_iter_items c.loop-part.part-iterator) (into_iter_items c.next.new.self) c.in-Some.part (c.loop-part.invariant.so_far.all ∙ c.into_iter-part-iterator.ensures.into_iter_gives.0) c.in-Some.ensures.steps.0 c.requires.range

pub seated-requires-clause-own : goal.seated-requires-clause-own
seated-requires-clause-own c =
    every_next (λ (p : Part). Every (λ (x : Message). x.to ≡ p.lp) p.pending) c.args.parts.items c.loop-part.yielded (into_iter_items c.loop-part.part-iterator) (into_iter_items c.next.new.self) c.in-Some.part (c.loop-part.invariant.so_far.all ∙ c.into_iter-part-iterator.ensures.into_iter_gives.0) c.in-Some.ensures.steps.0 c.requires.own

pub seated-requires-clause-late : goal.seated-requires-clause-late
seated-requires-clause-late c =
    every_next (λ (p : Part). Every (λ (x : Message). c.args.floor ≤ x.time) p.pending) c.args.parts.items c.loop-part.yielded (into_iter_items c.loop-part.part-iterator) (into_iter_items c.next.new.self) c.in-Some.part (c.loop-part.invariant.so_far.all ∙ c.into_iter-part-iterator.ensures.into_iter_gives.0) c.in-Some.ensures.steps.0 c.requires.late

pub set-requires-clause-inside : goal.set-requires-clause-inside
set-requires-clause-inside c =
    let place = seats_place (into_iter_items c.next.new.self) c.in-Some.part c.loop-part.invariant.so_far c.in-Some.ensures.steps.0 in
    let size = c.len-2.ensures in
    omega arith

pub loop-part-preserved : goal.loop-part-preserved
loop-part-preserved c =
    let reported = c.len-in-loop-part.ensures in
    let place : c.len-in-loop-part.result ≡ length c.loop-part.processes.items = omega (arith, c.loop-part.processes.ok) in
    record {
      so_far = seats_more (into_iter_items c.next.new.self) c.in-Some.part c.in_ok-process.process c.push.new.self.items c.of.result c.set.new.self c.loop-part.invariant.so_far c.in-Some.ensures.steps.0 c.in_ok-process.ensures.process c.in_ok-push.ensures.items c.of.ensures.summary (c.set.ensures ∙ ap (λ n. set c.loop-part.summaries n c.of.result) place);
      left =
          let was = c.loop-part.invariant.left in
          let gone = c.in-Some.ensures.steps.1 in
          let short = ap length c.in-Some.ensures.steps.0 in
          omega arith;
    }

pub returns-clause-processes : goal.returns-clause-processes
returns-clause-processes c =
    let none = sym c.loop-part.invariant.left ∙ c.in-None.ensures.steps.0 in
    (all_seated c.loop-part.invariant.so_far none).0 ∙ ap (map (seat_of c.args.floor)) c.into_iter-part-iterator.ensures.into_iter_gives.0

pub returns-clause-summaries : goal.returns-clause-summaries
returns-clause-summaries c =
    let none = sym c.loop-part.invariant.left ∙ c.in-None.ensures.steps.0 in
    (all_seated c.loop-part.invariant.so_far none).1 ∙ ap (λ (ps : List Part). standings_of c.args.end (map (seat_of c.args.floor) ps)) c.into_iter-part-iterator.ensures.into_iter_gives.0
