pub mod Bursts
pub mod Numbers
pub mod Readings
pub mod Words
pub mod Moved
pub mod Encoded
