pub mod Did
pub mod Open
pub mod Running
pub mod Turn
pub mod Response
pub mod Limits
pub mod Step
