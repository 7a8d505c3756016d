pub mod Sectors
pub mod Pace
pub mod Turns
pub mod Kept
pub mod Drive
pub mod Commutated
