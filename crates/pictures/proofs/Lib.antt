pub mod Pieces
pub mod Holes
pub mod Sendings
pub mod Traces
pub mod Counts
pub mod Frames
pub mod Rounds
pub mod Values
pub mod Roots
pub mod Buckets
pub mod Columns
pub mod Passed  -- laws of a simulation that forgets
pub mod Binned  -- the values of a word, and bins
pub mod Spreads  -- values in ascending order, from how often each came
pub mod OnTheWay  -- when the messages that are on their way were sent
pub mod Running  -- a simulation that counts its events
pub mod Cells  -- how many events each cell of a heat map has
mod Marked  -- the marks of a diagram
