pub mod Evidence
pub mod Keys
pub mod Linear
pub mod Zones
