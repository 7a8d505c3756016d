pub mod Journals
pub mod Calls
pub mod Flash
pub mod Windows
