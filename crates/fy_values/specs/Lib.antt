pub mod Renumbering
pub mod Values
