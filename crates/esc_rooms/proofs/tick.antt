pub mod Facts
pub mod Preserves
pub mod Control
pub mod Steps
pub mod Room
