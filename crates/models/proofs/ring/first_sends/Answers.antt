use Rattle.std.proofs.Common.{arith, lit<}
use Rattle.models.proofs.Rings.{sent_all, sent_few, sent_next, sent_none}
use Rattle.models.proofs.ring.first_sends.Goals as goal

pub loop-token-init : goal.loop-token-init
loop-token-init c = record {
  sent = rw c.new-sends.ensures.items (sent_none c.args.lps c.args.lp c.args.tokens c.requires.in_range);
  room = c.new-sends.ensures.capacity;
}

pub push_reserved-requires : goal.push_reserved-requires
push_reserved-requires c = (lit< tt, omega (arith, sent_few c.requires.few_tokens c.loop-token-test.true c.loop-token.invariant.sent, c.loop-token.invariant.room))

pub loop-token-preserved : goal.loop-token-preserved
loop-token-preserved c = record {
  sent = rw (c.push_reserved.ensures.items, c.from.ensures) (sent_next c.requires.in_range c.loop-token-test.true c.loop-token.invariant.sent);
  room = rw c.push_reserved.ensures.capacity c.loop-token.invariant.room;
}

pub returns : goal.returns
returns c = sent_all c.requires.in_range c.loop-token-test.false c.loop-token.invariant.sent
