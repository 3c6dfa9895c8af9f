pub mod JudgeBooks
pub mod JudgeLines
pub mod JudgeTexts
pub mod JudgeViews
