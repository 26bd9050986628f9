mod Flags
mod Givens
mod Lines
mod Readings
