pub mod Period
pub mod Ties
pub mod JudgedTies
pub mod Judgements
pub mod Steps
pub mod Room
pub mod Asked
