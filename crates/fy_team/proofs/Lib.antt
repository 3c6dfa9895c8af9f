pub mod Counting
pub mod Indexing
pub mod Keeping
pub mod Kept
pub mod Marking
pub mod Missing
pub mod Rising
pub mod Swapping
