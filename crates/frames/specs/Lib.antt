-- For callers: which values have an encoding, what a stream begins with, what a call returns.
pub mod Ranges  -- which values have an encoding
pub mod Bodies  -- the bodies of frames, and whole frames: encodings and readers
pub mod Cutting  -- the frame that is first in a stream, or the fault there
pub mod Streams  -- readers whose bytes contracts see
pub mod Encoding  -- what an encoder returns
pub mod Laws  -- each frame has one encoding
pub mod Hellos  -- the first frame of a run: its encoding, and what is first in a stream
pub mod HelloLaws  -- each hello has one encoding
-- For callers: the served text, and what `serve` returns.
pub mod Serving  -- the served text, by the model, the limit, the bytes and the turns without memory
pub mod Outcomes  -- what `serve` returns, writes and reads
pub mod Greeted  -- the same behind a hello
-- For callers: the other end of the stream.
pub mod Socket  -- the state of a port to a node in another program, and what its calls return
pub mod Meeting  -- the hellos of a run and a node
-- Internal: what the loop does with one frame.
pub mod Reactions
-- For callers: which reports of a node a judge accepts, and a port that judges
pub mod Judging
pub mod Judged
