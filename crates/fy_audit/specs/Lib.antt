pub mod AuditText
pub mod Script
pub mod Versions
pub mod Audit
pub mod One
pub mod Reading
pub mod Reader
