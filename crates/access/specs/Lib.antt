pub mod Rights
pub mod Words
pub mod Chains
pub mod Model
pub mod History
pub mod Rules
