pub mod Going
pub mod Commits
pub mod Inside
pub mod Opening
pub mod Refusals
pub mod Runs
