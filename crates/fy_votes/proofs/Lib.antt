pub mod Booked
pub mod ByCount
pub mod Common
pub mod Electing
pub mod Numbers
pub mod Taking
