pub mod Counts
pub mod Index
pub mod Members
pub mod Standing
pub mod Teams
pub use Rattle.fy_locality.specs.Locality
pub use Rattle.fy_policy.specs.Sat
pub use Rattle.fy_policy.specs.Tree
