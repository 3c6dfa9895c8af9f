pub mod Documents
pub mod Marks
