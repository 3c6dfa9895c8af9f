pub mod Members
pub mod Operating
pub mod Judging
