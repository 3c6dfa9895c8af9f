pub mod Operations
pub mod Registers
pub mod Judged
