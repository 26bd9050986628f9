pub mod Appending
pub mod Beginnings
pub mod Counts
pub mod Cuts
mod Examples
pub mod Filling
pub mod Formats
pub mod Frames
pub mod Halfway
pub mod Greetings
pub mod Hellos
pub mod Items
pub mod Places
pub mod Raws
pub mod Reacting
mod ServedExamples
pub mod Turns
pub mod Whole
pub mod Accepted
pub mod Alike
mod Handlings
mod Sending
