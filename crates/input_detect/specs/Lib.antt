pub mod Detect
pub mod Judge
