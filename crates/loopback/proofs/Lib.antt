pub mod Passing
pub mod Reading
mod Faithfulness
