pub mod Same
pub mod Setups
pub mod Spreads
