pub mod Columns
pub mod Cut
pub mod Simulated
pub mod Three
pub mod Tolerated
pub mod Turned
