pub mod Fronts
pub mod Nexts
pub mod Entering
pub mod Sent
