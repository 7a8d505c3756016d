pub mod Written
pub mod Nearest
pub mod Unwritten
