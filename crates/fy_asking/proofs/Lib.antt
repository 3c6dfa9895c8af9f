pub mod Asked
pub mod Lists
pub mod Deeds
pub mod Pieces
