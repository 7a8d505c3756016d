pub mod Cap
pub mod Cmp
pub mod Comm
pub mod Main
pub mod Pwm
pub mod Tick
pub mod Uart
