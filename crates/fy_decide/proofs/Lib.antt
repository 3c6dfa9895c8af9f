pub mod Alone
pub mod Deciding
pub mod Hardest
pub mod Judging
pub mod Sent
pub mod Tallying
