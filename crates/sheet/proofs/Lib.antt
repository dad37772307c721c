pub mod Broken
pub mod Decoding
pub mod Exact
pub mod NameCases
pub mod Reading
pub mod Walking
