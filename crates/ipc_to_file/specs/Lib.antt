pub mod Below
pub mod Streams
pub mod Files
pub mod Writing
pub mod Laws
