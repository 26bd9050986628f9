-- For callers
pub mod Loop  -- the stage of a port, and the parcel that was posted
pub mod Passing  -- why a call fails, and what comes back of what was sent
