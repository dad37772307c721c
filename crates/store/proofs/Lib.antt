pub mod ForCallers
pub mod Summing
