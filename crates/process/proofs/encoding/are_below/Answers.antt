use Rattle.std.proofs.Common.{◌≡◌, arith, sym}
use Rattle.std.proofs.lemmas.Bool.{le-ltb, lt-ltb}
use Rattle.std.specs.List.{list_all}
use Rattle.std.specs.Prelude.{false, nat_lt, true}
use Rattle.eventkey.specs.Encoding.{message_at}
use Rattle.eventkey.specs.Message.{Message}
use Rattle.process.proofs.ReportBytes.{all_more, all_less, with_done, with_end, with_fail, with_on}
use Rattle.process.proofs.encoding.are_below.Goals as goal

pub returns-in-None : goal.returns-in-None
returns-in-None c =
    let p = λ (x : Message). nat_lt x.to c.args.limit in
    with_fail (λ xs. list_all p xs ≡ true) (λ xs. true ≡ list_all p xs) message_at c.args.count c.args.bytes.now c.loop.counter c.loop.rest.now c.loop.invariant c.loop-test.true (sym c.in-None.ensures)

pub returns-then-to-limit : goal.returns-then-to-limit
returns-then-to-limit c =
    let p = λ (x : Message). nat_lt x.to c.args.limit in
    with_end (λ xs. list_all p xs ≡ true) (λ xs. false ≡ list_all p xs) message_at c.args.count c.args.bytes.now c.loop.counter c.loop.rest.now c.loop.invariant c.in-Some.read.0 c.in-Some.read.1.now c.loop-test.true (sym c.in-Some.ensures)
    (λ ys. sym (all_less p c.loop.invariant.0 ys c.in-Some.read.0 c.loop.invariant.1 (le-ltb c.in-Some.read.0.to c.args.limit (omega (arith, c.to.ensures, c.if-to-limit.true)))))

pub loop-preserved : goal.loop-preserved
loop-preserved c =
    let p = λ (x : Message). nat_lt x.to c.args.limit in
    with_on (λ xs. list_all p xs ≡ true) (λ xs. true ≡ list_all p xs) message_at c.args.count c.args.bytes.now c.loop.counter c.loop.rest.now c.loop.invariant c.in-Some.read.0 c.in-Some.read.1.now c.loop-test.true (sym c.in-Some.ensures) (λ xs. list_all p xs ≡ true)
    (λ h. all_more p c.loop.invariant.0 c.in-Some.read.0 h (lt-ltb c.in-Some.read.0.to c.args.limit (omega (arith, c.to.ensures, c.if-to-limit.false))))

pub returns : goal.returns
returns c =
    let p = λ (x : Message). nat_lt x.to c.args.limit in
    with_done (λ xs. list_all p xs ≡ true) (λ xs. true ≡ list_all p xs) message_at c.args.count c.args.bytes.now c.loop.counter c.loop.rest.now c.loop.invariant c.loop-test.false (λ h. sym h)
