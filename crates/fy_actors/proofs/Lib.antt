pub mod Adding
pub mod Drawing
pub mod PlansOfAll
pub mod Playing
pub mod Sent
pub mod Working
