pub mod Ways
pub mod Appends
pub mod Recoveries
pub mod Rounds
pub mod Sealing
