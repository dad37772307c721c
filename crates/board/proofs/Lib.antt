pub mod Marking
pub mod Room
