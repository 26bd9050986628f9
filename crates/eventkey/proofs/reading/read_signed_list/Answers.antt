use Rattle.std.proofs.Common.{◌≡◌, ◌-◌, ◌+◌, List, subst, sym, arith}
use Rattle.eventkey.proofs.Missing.{signed_missing}
use Rattle.eventkey.proofs.Loop.{items_done, items_fail, items_go_on, with_front}
use Rattle.eventkey.specs.declared.Signed.{Signed}
use Rattle.eventkey.specs.Reading.{items_at}
use Rattle.eventkey.specs.Encoding.{signed_at}
use Rattle.eventkey.proofs.reading.read_signed_list.Goals as goal

pub returns-in-None-clause-read : goal.returns-in-None-clause-read
returns-in-None-clause-read c = items_fail signed_at c.loop.list.items c.args.count c.loop.counter c.loop.rest.now (items_at signed_at c.args.count c.args.bytes.now) c.loop-test.true (sym c.in-None.ensures) c.loop.invariant

pub loop-preserved : goal.loop-preserved
loop-preserved c =
    let total = items_at signed_at c.args.count c.args.bytes.now in
    let more = items_go_on signed_at c.loop.list.items c.args.count c.loop.counter c.loop.rest.now c.in-Some.signed c.in-Some.after.now total c.loop-test.true (sym c.in-Some.ensures) c.loop.invariant in
    subst (λ (xs : List Signed). with_front xs (items_at signed_at (c.args.count - (c.loop.counter + 1)) c.in-Some.after.now) ≡ total) (sym c.in_ok-push-in-Some.ensures.items) more

pub returns-clause-read : goal.returns-clause-read
returns-clause-read c = items_done signed_at c.loop.list.items c.args.count c.loop.counter c.loop.rest.now (items_at signed_at c.args.count c.args.bytes.now) c.loop-test.false c.loop.invariant

pub returns-then-bytes-count-clause-read : goal.returns-then-bytes-count-clause-read
returns-then-bytes-count-clause-read c = signed_missing c.args.count c.args.bytes.now (omega (arith, c.if-bytes-count.true))
