pub mod Destroyed
pub mod Blames
pub mod Beyond
pub mod Turns
pub mod Noted
pub mod Watched
