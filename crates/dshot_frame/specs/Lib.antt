pub mod Bits
pub mod Verdict
pub mod Sent
