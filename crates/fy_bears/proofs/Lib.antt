pub mod Losing
pub mod Naming
