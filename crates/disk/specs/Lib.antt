pub mod Disk
pub mod Laws
pub mod Plans
pub mod Memory
pub mod MemoryInside
pub mod FileDisks
pub mod Growth
pub mod KeptSectors
