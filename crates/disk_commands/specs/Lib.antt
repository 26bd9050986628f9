-- For callers
pub mod Disks  -- what `new` of a disk that goes on from another one, `reopen` and `grow` print
pub mod Repairing  -- what `recover` and `cut` print
pub mod Faults  -- the fault of a command for a fault of what it calls
