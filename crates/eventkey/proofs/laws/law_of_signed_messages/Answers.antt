use Rattle.eventkey.proofs.Readings.{signed_are_read, signed_are_canonical, encodings_are_as_long}
use Rattle.eventkey.proofs.laws.law_of_signed_messages.Goals as goal

pub returns-clause-encoded : goal.returns-clause-encoded
returns-clause-encoded c = signed_are_canonical

pub returns-clause-read : goal.returns-clause-read
returns-clause-read c = signed_are_read

pub returns-clause-long : goal.returns-clause-long
returns-clause-long c = encodings_are_as_long
