pub mod Config
pub mod Given
pub mod Kept
pub mod Laws
pub mod Named
pub mod Parts
pub mod Tables
