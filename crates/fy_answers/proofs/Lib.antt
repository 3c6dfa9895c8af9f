pub mod Entering
pub mod Handling
