pub mod Names
pub mod Views
pub mod Lines
pub mod Progress
pub mod Histories
pub mod Sound
