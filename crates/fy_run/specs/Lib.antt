pub mod RunTexts
