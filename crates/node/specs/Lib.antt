-- For callers: a node at work, what it is posted, what it returns, and what it is afterwards
pub mod Node
pub mod Handling
-- For callers: the law of a node's work
pub mod Kept
-- Inside: faults of processes, the roster, the summaries of processes with their times, the tournament
pub mod Blocks
pub mod Fault
pub mod Roster
pub mod Seats
pub mod Times
pub mod Tournament
