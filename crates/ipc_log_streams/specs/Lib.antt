pub mod Below
pub mod Streams
pub mod Appends
