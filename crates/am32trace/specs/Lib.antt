pub mod Frames
pub mod Asked
pub mod Laws
pub mod Line
pub mod Script
pub mod Flown
pub mod Status
pub mod Request
