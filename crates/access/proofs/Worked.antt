pub mod Triples
pub mod Listed
pub mod Sheet
pub mod TenCalls
pub mod Rejections
pub mod Refusals
