pub mod Bits
pub mod Table
pub mod Lines
pub mod Periods
pub mod Replies
