pub mod Whole
pub mod Faults
pub mod Found
pub mod Told
