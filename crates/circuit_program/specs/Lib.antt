pub mod Waves  -- what the command `wave` prints
