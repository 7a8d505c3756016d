pub mod Line
pub mod Period
pub mod Reply
