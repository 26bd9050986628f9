use Rattle.frames.proofs.Frames.{bodies_are_canonical, no_byte_is_left_over}
use Rattle.frames.proofs.laws.law_of_bodies.Goals as goal

pub returns-clause-encoded : goal.returns-clause-encoded
returns-clause-encoded c = bodies_are_canonical

pub returns-clause-whole : goal.returns-clause-whole
returns-clause-whole c = no_byte_is_left_over
