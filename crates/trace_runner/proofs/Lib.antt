pub mod Quiet
pub mod Written
pub mod Goes
pub mod Steps
