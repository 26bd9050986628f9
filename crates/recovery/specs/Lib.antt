-- For callers: the header of a disk, the encoding and the content of a record, replay, and the
-- worlds that records and disks represent
pub mod Header
pub mod Bodies
pub mod Checkpoints
pub mod Ends
pub mod Contents
pub mod Replay
pub mod Represents
pub mod Front
pub mod Recovered
-- For callers: what a crash may leave, what stays of old records, histories of calls on a disk, and
-- runs
pub mod Crashes
pub mod OldRecords
pub mod Histories
pub mod Runs
-- For callers: the laws of these, and the causes of refusals
pub mod Laws
pub mod Causes
