pub mod Maps
pub mod Renumbered
pub mod Numbering
pub mod Parts
