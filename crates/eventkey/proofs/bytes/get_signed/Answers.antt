use Rattle.std.proofs.Common.{◌∙◌, arith}
use Rattle.eventkey.proofs.Readings.{signed_read-again, signed_read-encoded}
use Rattle.eventkey.proofs.bytes.get_signed.Goals as goal

pub returns-clause-encoded : goal.returns-clause-encoded
returns-clause-encoded c = rw c.sign_and_message.ensures (signed_read-encoded c.args.bytes.now (λ i. omega (arith, c.type_inv.bytes i)))

pub returns-clause-again : goal.returns-clause-again
returns-clause-again c = λ s rest is e. c.sign_and_message.ensures ∙ signed_read-again c.args.bytes.now s rest is e
