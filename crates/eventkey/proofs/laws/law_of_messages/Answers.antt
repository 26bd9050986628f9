use Rattle.eventkey.proofs.Fixed.{messages_are_read}
use Rattle.eventkey.proofs.Readings.{messages_are_canonical}
use Rattle.eventkey.proofs.laws.law_of_messages.Goals as goal

pub returns-clause-encoded : goal.returns-clause-encoded
returns-clause-encoded c = messages_are_canonical

pub returns-clause-read : goal.returns-clause-read
returns-clause-read c = messages_are_read
