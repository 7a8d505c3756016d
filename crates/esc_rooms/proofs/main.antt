pub mod Saves
pub mod Room
