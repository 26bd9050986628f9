-- For callers
pub mod Chosen  -- a part of a log
pub mod Run  -- a run in detail, and when a message was sent
pub mod Figures  -- figures of a run
pub mod Tables  -- the figures as texts
pub mod Levels  -- a number over virtual time
pub mod Tallies  -- the values of a word in messages
pub mod Histograms  -- how many values of a word are in each bin
pub mod Quotients  -- quotients and roots, rounded down
pub mod Drawing  -- the space-time diagram
pub mod Load  -- the load, as a heat map
pub mod Turns  -- the rows of a trace
pub mod Course  -- the course of a run, round by round
pub mod Stepping  -- a simulation that forgets the events that it has handled
-- Inside
pub mod Filled  -- texts with placeholders for numbers
pub mod Senders  -- when the messages that are on their way were sent
pub mod Delays  -- how often each value came
pub mod Counting  -- what was counted of a run so far
pub mod Marking  -- what a diagram shows of a run so far
pub mod Inside  -- the value of a trace that contracts see
pub mod Watching  -- a look at a process after an event
