pub mod Below
pub mod Schemas
pub mod Writers
pub mod Putting
pub mod Ending
pub mod Opened
pub mod Logs
