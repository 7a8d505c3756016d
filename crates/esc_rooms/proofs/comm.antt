pub mod Facts
pub mod Preserves
pub mod Turns
pub mod Switches
pub mod Steps
pub mod Room
pub mod Asked
