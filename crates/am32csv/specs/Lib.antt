pub mod Clock
pub mod Captured
pub mod Rows
pub mod Records
pub mod Status
