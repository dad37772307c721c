pub mod Calls
pub mod Names
pub mod Accounts
pub mod Standing
pub mod Runs
