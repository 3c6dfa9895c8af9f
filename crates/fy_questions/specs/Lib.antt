pub mod Bearings
pub mod Told
pub use Rattle.fy_locality.specs.Locality
