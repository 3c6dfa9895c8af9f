pub mod Changes
pub mod Covers
pub mod Least
pub mod Protections
pub mod Rights
pub use Rattle.fy_kinds.specs.Kinds
pub use Rattle.fy_locality.specs.Locality
