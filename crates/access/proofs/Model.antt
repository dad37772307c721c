pub mod Local
pub mod Keeping
