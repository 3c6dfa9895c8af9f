pub mod Columns
pub mod Simulated
pub mod Tolerated
pub mod Turns
