-- For callers: one logical process, what its calls return and change, and its invariants
pub mod Process
pub mod View
pub mod Consistent
-- For callers: reports as bytes
pub mod Reports
-- Inside: the handlings of a process as the bytes of their reports, and the other parts of a process
-- in the code
pub mod Handlings
pub mod Course
pub mod Inside
-- For tests: a ring of three processes
pub mod Ring
