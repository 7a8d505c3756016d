pub mod Act
pub mod Repeats
