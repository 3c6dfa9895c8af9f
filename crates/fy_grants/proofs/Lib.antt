pub mod Covered
pub mod Covering
pub mod Lawful
pub mod Lists
