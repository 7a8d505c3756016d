pub mod Line
pub mod Read
pub mod Ahead
pub mod Text
pub mod NoteRead
pub mod Laws
