pub mod BitsBack
pub mod Kinds
pub mod Members
pub mod Orders
pub use Rattle.fy_locality.specs.Locality
