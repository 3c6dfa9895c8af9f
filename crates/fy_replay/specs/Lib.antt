pub mod Check
pub mod Replayed
pub mod Replayer
