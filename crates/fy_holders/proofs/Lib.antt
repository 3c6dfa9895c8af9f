pub mod Positions
pub mod Blaming
pub mod Turning
pub mod Noting
pub mod Since
pub mod Watching
pub mod Finding
