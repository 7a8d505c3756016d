pub mod Sector
pub mod Kept
pub mod Late
pub mod Comparator
