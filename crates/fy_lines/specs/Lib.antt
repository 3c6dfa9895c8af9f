pub mod Lines
pub mod Prefixes
pub mod Readings
pub mod Windows
pub mod WindowFields
