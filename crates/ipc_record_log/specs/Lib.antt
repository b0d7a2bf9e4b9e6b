pub mod Records
pub mod Logs
