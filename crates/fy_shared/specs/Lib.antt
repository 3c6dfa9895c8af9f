pub mod Yard
pub mod Turnstile
pub mod Places
pub mod AtDesk
pub mod Posts
pub mod Parts
