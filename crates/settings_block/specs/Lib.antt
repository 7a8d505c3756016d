pub mod Field
pub mod Settings
pub mod Block
pub mod Stored
