pub mod Cases
pub mod Deeds
pub mod Formed
pub mod Later
pub mod Past
pub mod Steps
pub mod Written
pub mod Allowed
