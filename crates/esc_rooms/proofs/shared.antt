pub mod Facts
pub mod Dues
pub mod Lines
pub mod RoomSteps
pub mod Returns
pub mod DriveFacts
pub mod Law
