pub mod Boards
pub mod Facts
