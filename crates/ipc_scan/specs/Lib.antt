pub mod Below
pub mod Messages
pub mod Columns
pub mod Sends
