pub mod Pulse
