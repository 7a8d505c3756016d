pub mod Preserves
pub mod Steps
pub mod Room
