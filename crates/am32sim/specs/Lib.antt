pub mod Words
pub mod Options
pub mod Run
pub mod Show
pub mod Status
