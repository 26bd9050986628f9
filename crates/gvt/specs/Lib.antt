-- For callers: the ledger, and picks of what travels
pub mod Ledger
pub mod Picks
-- For callers: a running system and its moves, the user-level theorem, and the laws
pub mod System  -- system states, consistent and balanced; global virtual time; the opened one
pub mod Moves  -- what each move does, its refusals, its answers; lists of moves
pub mod Readers  -- optimistic equals sequential, without the invariants
pub mod Laws  -- all laws: openings, moves, runs, commits, nodes, the ledger
-- For the crates above: the definitions that the laws use
pub mod Sound  -- the invariant of a running system, and what a later system state keeps
pub mod Views  -- the nodes, the ledger and the loads of a system state
pub mod Replies  -- what a reply may name
pub mod Judged  -- commits that trust no node
-- Internal: the accounts of nodes, marks of places, least times
pub mod Accounts
pub mod Marks
pub mod Times
