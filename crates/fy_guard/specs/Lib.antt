pub mod AfterTexts
pub mod AskedTexts
pub mod Cuts
pub mod GuardTexts
