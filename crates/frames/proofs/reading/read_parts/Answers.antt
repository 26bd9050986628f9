use Rattle.std.proofs.Common.{◌≡◌, ◌-◌, ◌+◌, List, subst, sym}
use Rattle.eventkey.proofs.Loop.{items_done, items_fail, items_go_on, with_front}
use Rattle.eventkey.specs.Reading.{items_at}
use Rattle.node.specs.declared.Part.{Part}
use Rattle.frames.specs.Bodies.{part_at}
use Rattle.std.specs.declared.alloc.AllocError.{AllocError}
use Rattle.eventkey.proofs.Givings.{gives_none, gives_some}
use Rattle.frames.proofs.reading.read_parts.Goals as goal

pub returns-in-None : goal.returns-in-None
returns-in-None c =
    let none = gives_none AllocError _ _ _ c.in_ok-read_part.ensures c.in-None.is in
    items_fail part_at c.loop.parts.items c.args.count c.loop.counter c.loop.rest.now (items_at part_at c.args.count c.args.bytes.now) c.loop-test.true none c.loop.invariant

pub loop-preserved : goal.loop-preserved
loop-preserved c =
    let total = items_at part_at c.args.count c.args.bytes.now in
    let one = gives_some AllocError _ _ _ _ c.in_ok-read_part.ensures c.in-Some.is in
    let more = items_go_on part_at c.loop.parts.items c.args.count c.loop.counter c.loop.rest.now c.in-Some.part c.in-Some.after.now total c.loop-test.true one c.loop.invariant in
    subst (λ (xs : List Part). with_front xs (items_at part_at (c.args.count - (c.loop.counter + 1)) c.in-Some.after.now) ≡ total) (sym c.in_ok-push-in-Some.ensures.items) more

pub returns : goal.returns
returns c = items_done part_at c.loop.parts.items c.args.count c.loop.counter c.loop.rest.now (items_at part_at c.args.count c.args.bytes.now) c.loop-test.false c.loop.invariant
