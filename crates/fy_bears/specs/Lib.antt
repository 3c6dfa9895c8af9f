pub mod BearsTexts
pub mod Forgets
pub mod Pieces
pub mod Spelled
pub mod Texts
pub mod Warnings
