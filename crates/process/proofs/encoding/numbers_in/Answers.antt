use Rattle.std.proofs.Common.{sym, ◌∙◌}
use Rattle.eventkey.specs.Reading.{number_at}
use Rattle.process.proofs.ReportBytes.{listed_done, listed_fail, listed_on, one_longer}
use Rattle.process.proofs.encoding.numbers_in.Goals as goal

pub returns-in-None : goal.returns-in-None
returns-in-None c = listed_fail (number_at 8) c.loop.words.items c.args.count c.loop.counter c.args.bytes.now c.loop.rest.now c.loop.invariant.so_far c.loop-test.true (sym c.in-None.ensures)

pub loop-preserved : goal.loop-preserved
loop-preserved c = record {
  so_far = listed_on (number_at 8) c.loop.words.items c.args.count c.loop.counter c.args.bytes.now c.loop.rest.now c.loop.invariant.so_far c.in-Some.word c.in-Some.after.now c.push_reserved.new.self.items c.loop-test.true (sym c.in-Some.ensures) c.push_reserved.ensures.items;
  many = one_longer _ _ _ c.loop.counter c.push_reserved.ensures.items c.loop.invariant.many;
  room = c.push_reserved.ensures.capacity ∙ c.loop.invariant.room;
}

pub returns : goal.returns
returns c = listed_done (number_at 8) c.loop.words.items c.args.count c.loop.counter c.args.bytes.now c.loop.rest.now c.loop.invariant.so_far c.loop-test.false
