pub mod Powers
pub mod ReadBack
pub mod Steps
pub mod Rounding
