pub mod Stable
pub mod Told
pub mod Grows
