pub mod Micros
pub mod Events
pub mod Columns
pub mod Answers
pub mod Stops
