use Rattle.std.proofs.Common.{◌+◌, ◌∙◌, ap, arith, drop, length, min}
use Rattle.pictures.proofs.Running.{counted_forgotten, counted_open, counted_step, event_fits, went_below}
use Rattle.pictures.proofs.counted.count_events.Goals.{then-log-room+in_ok-short, else-log-room}
use Rattle.pictures.proofs.counted.count_events.Goals as goal

pub loop-events-init : goal.loop-events-init
loop-events-init g c = record {
  counted = counted_open (g.M.Model.meaning c.args.model.now) (min c.args.to c.args.end) c.args.end c.in_ok-world.world c.in_ok-counts.counts c.numbers.result.now c.in_ok-world.ensures.ok c.numbers.ensures c.in_ok-counts.ensures.counted c.in_ok-counts.ensures.found;
  end = ap (λ s. s.end) c.in_ok-world.ensures.ok;
  lps = c.in_ok-world.ensures.lps;
}

pub add-requires-clause-numbers : goal.add-requires-clause-numbers
add-requires-clause-numbers g c =
    let m = g.M.Model.meaning c.args.model.now in
    let b = min c.args.to c.args.end in
    let s = c.loop-events.world in
    let w = s.world in
    let v = c.step.new.self.world in
    let x = c.in-Some.event in
    let some = c.in-Some.ensures.some in
    let e = went_below m b c.min-bound.result s v x c.in_ok-step.field-0 c.min-bound.ensures (omega (arith, c.loop-events.invariant.end)) some c.in_ok-step.ensures.handled c.in_ok-step.ensures.idle in
    let fits = event_fits m b w v c.loop-events.counts c.loop-events.events x (drop 1 w.pending) c.numbers-in-loop-events.result.now (g.met.M.Model.lawful c.args.model.now) (omega (arith, c.requires.end)) c.loop-events.invariant.counted some.0 e c.numbers-in-loop-events.ensures in
    fits.0

pub add-requires-clause-senders : goal.add-requires-clause-senders
add-requires-clause-senders g c =
    let m = g.M.Model.meaning c.args.model.now in
    let b = min c.args.to c.args.end in
    let s = c.loop-events.world in
    let w = s.world in
    let v = c.step.new.self.world in
    let x = c.in-Some.event in
    let some = c.in-Some.ensures.some in
    let e = went_below m b c.min-bound.result s v x c.in_ok-step.field-0 c.min-bound.ensures (omega (arith, c.loop-events.invariant.end)) some c.in_ok-step.ensures.handled c.in_ok-step.ensures.idle in
    let fits = event_fits m b w v c.loop-events.counts c.loop-events.events x (drop 1 w.pending) c.numbers-in-loop-events.result.now (g.met.M.Model.lawful c.args.model.now) (omega (arith, c.requires.end)) c.loop-events.invariant.counted some.0 e c.numbers-in-loop-events.ensures in
    fits.1

pub add-requires-clause-handled : goal.add-requires-clause-handled
add-requires-clause-handled g c =
    let m = g.M.Model.meaning c.args.model.now in
    let b = min c.args.to c.args.end in
    let s = c.loop-events.world in
    let w = s.world in
    let v = c.step.new.self.world in
    let x = c.in-Some.event in
    let some = c.in-Some.ensures.some in
    let e = went_below m b c.min-bound.result s v x c.in_ok-step.field-0 c.min-bound.ensures (omega (arith, c.loop-events.invariant.end)) some c.in_ok-step.ensures.handled c.in_ok-step.ensures.idle in
    let fits = event_fits m b w v c.loop-events.counts c.loop-events.events x (drop 1 w.pending) c.numbers-in-loop-events.result.now (g.met.M.Model.lawful c.args.model.now) (omega (arith, c.requires.end)) c.loop-events.invariant.counted some.0 e c.numbers-in-loop-events.ensures in
    fits.2

pub loop-events-preserved : goal.loop-events-preserved
loop-events-preserved g c =
    let m = g.M.Model.meaning c.args.model.now in
    let b = min c.args.to c.args.end in
    let s = c.loop-events.world in
    let w = s.world in
    let v = c.step.new.self.world in
    let x = c.in-Some.event in
    let some = c.in-Some.ensures.some in
    let e = went_below m b c.min-bound.result s v x c.in_ok-step.field-0 c.min-bound.ensures (omega (arith, c.loop-events.invariant.end)) some c.in_ok-step.ensures.handled c.in_ok-step.ensures.idle in
    let counted = counted_step m b w v x (drop 1 w.pending) c.loop-events.counts c.add.new.self c.loop-events.events c.numbers-in-loop-events.result.now (g.met.M.Model.lawful c.args.model.now) (omega (arith, c.requires.end)) c.loop-events.invariant.counted some.0
    e c.numbers-in-loop-events.ensures c.in_ok-add.ensures.counted c.in_ok-add.ensures.found in
    let lps = c.in_ok-step.ensures.lps ∙ c.loop-events.invariant.lps in
    elim c.if-log-room.branch [
      | then-log-room+in_ok-short t ↦
          let is = t.in_ok-short.ensures in
          let all = t.as_slice-unsent.ensures.value in
          rw (t.world-is, t.counts-is) (record {
            counted = counted_forgotten m b c.args.end v t.in_ok-short.short c.add.new.self t.forget_times.new.senders (c.loop-events.events + 1) counted is.world
                (rw all at is.senders) (rw all at is.pending) (rw all at is.others);
            end = ap (λ u. u.end) is.world;
            lps = ap (λ u. length u.world.states) is.world ∙ lps;
          })
      | else-log-room t ↦ rw (t.world-is, t.counts-is) (record {
        counted = counted;
        end = c.in_ok-step.ensures.end ∙ c.loop-events.invariant.end;
        lps = lps;
      })
    ]
