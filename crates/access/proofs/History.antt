pub mod Naming
pub mod Histories
pub mod Running
