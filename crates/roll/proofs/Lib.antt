pub mod Listing
pub mod Apartness
pub mod Moving
