-- For callers: what a run does to its session, with which budgets, and what it counts
pub mod Budgets
pub mod Driver
pub mod Runs  -- what a run promises, by its outcome
pub mod Tallies
pub mod Simulation  -- what a simulation leaves and returns, and why a call fails
-- For callers
pub mod Commands  -- what the commands print
pub mod Migrating  -- what a migration prints, and what it leaves on the new disk
