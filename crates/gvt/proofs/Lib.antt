pub mod Floors
pub mod Marks
pub mod Openings
pub mod Picking
pub mod Sweeps
pub mod Gathered
pub mod Places
pub mod Commit
pub mod Commits
pub mod Gvt
pub mod Posts
pub mod Fossils
pub mod Takes
pub mod Opened
pub mod Runs
pub mod Refusals
pub mod Ledgers
pub mod Answers
pub mod Replies
pub mod Numbers
pub mod Judged
mod Examples
mod CommitExamples
mod ThreeNodes
