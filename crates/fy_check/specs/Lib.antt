pub mod CheckTexts
pub mod Checked
pub mod Inputs
pub mod InputFields
