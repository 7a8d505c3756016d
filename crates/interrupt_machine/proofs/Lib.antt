pub mod OpenKinds
pub mod OwnLeft
pub mod OwnSteps
pub mod Waiting
