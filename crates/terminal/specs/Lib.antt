-- For callers
pub mod Hints  -- which other way to run a model would be faster
pub mod Trace  -- the trace of a run
