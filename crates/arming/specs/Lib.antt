pub mod Throttle
pub mod Decide
pub mod Kept
pub mod ControlAt
pub mod Controlled
pub mod Laws
pub mod Stands
