pub mod States
pub mod Layouts
pub mod Confinement
pub mod Operations
pub mod Operated
