-- For callers: the input queue and the five cases of an arrival; records of what was handled
pub mod Queue
pub mod Record
-- Inside: the parts of a queue, the place of a message in a list, what leaves a bucket, the messages
-- at hand
pub mod Inside
pub mod Place
pub mod Buckets
pub mod Bag
pub mod Split
pub mod EventList
