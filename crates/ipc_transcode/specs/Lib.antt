pub mod Below
pub mod Transcode
pub mod Sends
