-- For callers
pub mod Views  -- what the read-only commands print
pub mod Reading  -- the same by their arguments, of a disk that may be a segment
pub mod Beginnings  -- where the simulation on a disk begins
pub mod Tables  -- tables as they are printed
-- Inside
pub mod Streaming  -- the run of a model that is printed as it is made
pub mod Replaying  -- the replay of a disk that forgets the events of some records at once
