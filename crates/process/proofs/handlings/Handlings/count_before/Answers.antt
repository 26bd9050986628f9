use Rattle.std.proofs.Common.{◌≡◌, ◌∙◌, arith, ap, length, rules, sym}
use Rattle.process.proofs.HandlingBytes.{length-lengths_of, none_before, one_within, some_left, step, stops}
use Rattle.process.proofs.handlings.Handlings.count_before.Goals as goal

pub returns-then-time-floor-clause-count : goal.returns-then-time-floor-clause-count
returns-then-time-floor-clause-count c =
    let late = c.if-time-floor.true in
    omega (arith, stops c.args.floor c.args.self.now c.parts.ensures.ranged c.loop-time.count c.loop-time.rest.now c.loop-time.invariant.text c.in-Some.time c.in-Some.ensures (omega (arith, late)), c.loop-time.invariant.so_far)

pub index-requires : goal.index-requires
index-requires c =
    let long : c.parts.result.0.now.len ≡ length c.parts.result.0.now.items = search rules in
    omega (arith, long, some_left c.args.floor c.args.self.now c.parts.ensures.ranged c.loop-time.count c.loop-time.rest.now c.loop-time.invariant.text c.in-Some.time c.in-Some.ensures, ap length c.parts.ensures.lengths, length-lengths_of c.args.self.now)

pub split_at-requires : goal.split_at-requires
split_at-requires c =
    one_within c.args.floor c.args.self.now c.parts.ensures.ranged c.loop-time.count c.loop-time.rest.now c.loop-time.invariant.text c.in-Some.time c.in-Some.ensures _ c.index.result.now c.parts.ensures.lengths c.index.ensures

pub loop-time-preserved : goal.loop-time-preserved
loop-time-preserved c =
    let early = c.if-time-floor.false in
    let s = step c.args.floor c.args.self.now c.parts.ensures.ranged c.loop-time.count c.loop-time.rest.now c.loop-time.invariant.text c.in-Some.time c.in-Some.ensures _ c.index.result.now c.parts.ensures.lengths c.index.ensures (omega (arith, early)) in
    record { there = omega (arith, s.some); text = c.split_at.ensures.back ∙ s.text; so_far = sym s.more ∙ c.loop-time.invariant.so_far }

pub loop-time-smaller : goal.loop-time-smaller
loop-time-smaller c =
    omega (arith, some_left c.args.floor c.args.self.now c.parts.ensures.ranged c.loop-time.count c.loop-time.rest.now c.loop-time.invariant.text c.in-Some.time c.in-Some.ensures)

pub returns-clause-count : goal.returns-clause-count
returns-clause-count c =
    omega (arith, none_before c.args.floor c.args.self.now c.parts.ensures.ranged c.loop-time.count c.loop-time.rest.now c.loop-time.invariant.text c.in_default.ensures, c.loop-time.invariant.so_far)
