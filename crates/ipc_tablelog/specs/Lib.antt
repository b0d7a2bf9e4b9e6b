pub mod Below
pub mod TableLogs
pub mod Opened
