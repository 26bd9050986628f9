-- For callers
pub mod Command  -- the command line
pub mod Topics  -- what the words of `help` ask for
