pub mod Soonest
pub mod Advance
pub mod Line
pub mod Comp
