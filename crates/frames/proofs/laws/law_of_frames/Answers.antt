use Rattle.frames.proofs.Frames.{frames_are_read_back, frames_are_read_whole, frames_are_canonical}
use Rattle.frames.proofs.laws.law_of_frames.Goals as goal

pub returns-clause-again : goal.returns-clause-again
returns-clause-again c = frames_are_read_back

pub returns-clause-encoded : goal.returns-clause-encoded
returns-clause-encoded c = frames_are_canonical

pub returns-clause-whole : goal.returns-clause-whole
returns-clause-whole c = frames_are_read_whole
