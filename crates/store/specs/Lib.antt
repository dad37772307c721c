pub mod Refusals
pub mod Ranges
pub mod Contents
pub mod Answers
pub mod Laws
