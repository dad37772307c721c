pub mod Lists
pub mod Facts
pub mod Laws
pub mod Rolls
