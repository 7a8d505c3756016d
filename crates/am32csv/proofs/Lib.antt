pub mod Changes
pub mod Endings
pub mod Ticks
pub mod Rows
pub mod RowsRead
