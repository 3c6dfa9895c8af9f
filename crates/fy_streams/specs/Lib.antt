pub mod Outputs
pub mod Stops
