use Rattle.std.proofs.Common.{sym, ◌∙◌, arith, length}
use Rattle.std.proofs.lemmas.Bool.{lt-ltb}
use Rattle.eventkey.proofs.Readings.{message_read-again, message_read-long, message_read-encoded}
use Rattle.eventkey.proofs.bytes.get_message.Goals as goal

pub returns-then-bytes-lt-MESSAGE_BYTES-clause-again : goal.returns-then-bytes-lt-MESSAGE_BYTES-clause-again
returns-then-bytes-lt-MESSAGE_BYTES-clause-again c = λ x rest is e. rw (lt-ltb (length c.args.bytes.now) 56 c.if-bytes-lt-MESSAGE_BYTES.true) at (message_read-again c.args.bytes.now x rest is e)

pub returns-clause-encoded : goal.returns-clause-encoded
returns-clause-encoded c = rw (c.fixed_fields.ensures, ← message_read-long c.args.bytes.now c.if-bytes-lt-MESSAGE_BYTES.false) (message_read-encoded c.args.bytes.now (λ i. omega (arith, c.type_inv.bytes i)))

pub returns-clause-again : goal.returns-clause-again
returns-clause-again c = λ x rest is e.
    c.fixed_fields.ensures ∙ sym (message_read-long c.args.bytes.now c.if-bytes-lt-MESSAGE_BYTES.false) ∙ message_read-again c.args.bytes.now x rest is e
