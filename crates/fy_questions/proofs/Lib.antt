pub mod Lost
pub mod Ranges
