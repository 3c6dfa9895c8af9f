pub mod AnswerLemmas
pub mod InputLemmas
pub mod JudgeOnce
pub mod LineLemmas
pub mod StepOnce
pub mod WordLemmas
