-- For callers
pub mod Attempts  -- what the attempts of a run do on its disks
pub mod Command  -- what the commands print
pub mod Turns  -- the rows of turns
pub mod Version  -- what `--version` prints
