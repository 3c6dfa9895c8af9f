pub mod Fronts
pub mod Destroyed
pub mod Wholes
pub mod Founding
pub mod Watching
pub mod Telling
