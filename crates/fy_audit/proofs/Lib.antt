pub mod AllCommands
pub mod Ones
pub mod Steps
pub mod OneAudit
pub mod Reading
pub mod LineFaults
