pub mod Below
pub mod Files
pub mod Laws
pub mod Sending
