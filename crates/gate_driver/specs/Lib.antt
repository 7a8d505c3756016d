pub mod Gated
pub mod DeadSafe
pub mod Acted
pub mod AllOff
pub mod Chop
pub mod Change
