pub mod Checking
pub mod OneFinding
mod Taking
mod Headers
