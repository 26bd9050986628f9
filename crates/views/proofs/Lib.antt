pub mod Printed
mod Runs
mod Streams
mod Segments
mod Letters
pub mod Tabled
mod Members
mod Preceded
mod Replayed
mod Listed
