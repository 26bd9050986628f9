use Rattle.std.proofs.Common.{◌≡◌, ◌++◌, List, sym}
use Rattle.std.specs.List.{filter}
use Rattle.std.specs.Prelude.{nat_le}
use Rattle.eventkey.specs.Encoding.{message_at}
use Rattle.eventkey.specs.Message.{Message}
use Rattle.process.proofs.ReportBytes.{kept_more, with_done, with_fail, with_on}
use Rattle.process.proofs.encoding.push_from.Goals as goal

pub returns-in-None : goal.returns-in-None
returns-in-None c =
    let Q = λ (xs : List Message). c.loop.out.items ≡ c.args.out.now.items ++ filter (λ (x : Message). nat_le c.args.time x.time) xs in
    with_fail Q Q message_at c.args.count c.args.bytes.now c.loop.counter c.loop.rest.now c.loop.invariant c.loop-test.true (sym c.in-None.ensures)

pub loop-preserved : goal.loop-preserved
loop-preserved c =
    let p = λ (x : Message). nat_le c.args.time x.time in
    let old = c.args.out.now.items in
    let Q = λ (xs : List Message). c.loop.out.items ≡ old ++ filter p xs in
    with_on Q Q message_at c.args.count c.args.bytes.now c.loop.counter c.loop.rest.now c.loop.invariant c.in-Some.read.0 c.in-Some.read.1.now c.loop-test.true (sym c.in-Some.ensures) (λ xs. c.push_if_from.new.out.items ≡ old ++ filter p xs)
    (λ h. kept_more p old c.loop.out.items c.push_if_from.new.out.items c.loop.invariant.0 c.in-Some.read.0 c.in_ok-push_if_from-in-Some.ensures h)

pub returns : goal.returns
returns c =
    let Q = λ (xs : List Message). c.loop.out.items ≡ c.args.out.now.items ++ filter (λ (x : Message). nat_le c.args.time x.time) xs in
    with_done Q Q message_at c.args.count c.args.bytes.now c.loop.counter c.loop.rest.now c.loop.invariant c.loop-test.false (λ h. h)
