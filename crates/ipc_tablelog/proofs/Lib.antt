pub mod Below
pub mod Records
pub mod Logs
pub mod Opening
