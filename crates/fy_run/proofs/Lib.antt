pub mod Acting
pub mod Gathering
pub mod Loading
