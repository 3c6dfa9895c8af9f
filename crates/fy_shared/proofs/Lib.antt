pub mod Journals
pub mod Moves
pub mod Turning
pub mod AtDesk
pub mod Parting
pub mod Counting
pub mod Closing
pub mod Sent
