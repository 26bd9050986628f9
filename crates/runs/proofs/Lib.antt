mod Causes
mod Counts
mod Drives
mod Faults
mod Kept
mod Left
pub mod Ports
mod Refused
mod Shapes
mod Unfinished
mod OldDisks
mod Printed
mod Prints
