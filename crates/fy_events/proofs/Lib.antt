pub mod Ends
pub mod Rising
pub mod Zeros
