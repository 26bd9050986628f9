mod Batches
mod LastChanges
mod Applying
mod Sorting
mod Judges
mod Places
pub mod Appending
mod Committing
mod Keeping
mod PortStates
pub mod PortFaults
mod Posting
mod Taking
pub mod Driving
mod GoingOn
mod Refusals
mod Logging
mod JudgedCommits
mod Loading
mod Parted
mod Parting
pub mod Begun
pub mod Extensions
pub mod Resuming
