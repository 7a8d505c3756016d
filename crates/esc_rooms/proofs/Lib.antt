pub mod shared
pub mod cap
pub mod tick
pub mod main
pub mod pwm
pub mod comm
pub mod cmp
pub mod log
