pub mod Modes
pub mod Edges
pub mod Burst
pub mod Window
pub mod Heard
