pub mod Crc
pub mod Reply
pub mod Ack
pub mod Command
pub mod Answer
pub mod Cut
pub mod Part
pub mod Queue
