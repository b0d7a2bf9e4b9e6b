pub mod Below
pub mod Meaning
pub mod Calling
pub mod Sending
