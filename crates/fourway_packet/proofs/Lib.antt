pub mod Division
pub mod Reading
pub mod Cutting
pub mod OneMore
