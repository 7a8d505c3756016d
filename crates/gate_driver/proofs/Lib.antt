pub mod Bits
pub mod OffTimes
pub mod DeadTime
pub mod Programs
