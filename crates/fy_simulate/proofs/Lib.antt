pub mod Opening
pub mod Ordered
pub mod Same
pub mod Turning
