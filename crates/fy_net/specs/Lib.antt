pub mod Kept
pub mod Net
pub mod Numbers
pub mod Pool
pub mod Places
pub mod Slots
