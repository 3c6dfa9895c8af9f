pub mod Asks
pub mod Requests
pub mod ToldPieces
pub mod ToldTexts
