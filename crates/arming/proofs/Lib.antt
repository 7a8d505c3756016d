pub mod FrameTies
pub mod TickTies
pub mod InOrder
pub mod DriveFollows
pub mod SilenceEnds
