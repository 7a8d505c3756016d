pub mod Exclusive
pub mod Left
