-- For callers: the meaning of a model, its laws, and the sequential simulation
pub mod Meaning
pub mod World
pub mod Sequential
pub mod Runner
-- For callers: simulations that go on from a world of another one
pub mod Origins
pub mod Lawful
-- For callers: the encoding of state words
pub mod Encoding
-- Inside: the value of a world that contracts see, and how the runner keeps pending messages
pub mod Inside
pub mod Pending
pub mod Ticks
pub mod Slots
