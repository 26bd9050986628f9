pub mod Written
pub mod Lines
pub mod Tables
pub mod Right
pub mod KindsRight
pub mod Placing
pub mod Counting
