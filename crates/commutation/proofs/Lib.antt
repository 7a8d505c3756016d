pub mod TurnList
pub mod TimedNotes
pub mod Order
