pub mod Blank
pub mod Sectors
pub mod Crashes
pub mod Growths
mod Spans
mod Keeping
mod Examples
