-- For callers
pub mod Greeting
