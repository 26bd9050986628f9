pub mod Port
pub mod Local
