pub mod Casting
pub mod Playing
pub mod Swarming
