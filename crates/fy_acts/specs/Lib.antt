pub mod Acts
pub mod Journal
pub mod Kept
pub mod Versions
