-- For callers: messages and antimessages, their order, and bags of them
pub mod Message
pub mod Order
pub mod Signed
pub mod Bag
-- For callers: encodings, and reading bytes from left to right
pub mod Reading
pub mod Encoding
-- For callers: which part of a text a writer has taken
pub mod Writing
-- For callers: the laws, each a clause of a function that does nothing
pub mod Laws
