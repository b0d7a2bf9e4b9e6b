pub mod Below
pub mod Tables
pub mod Opening
pub mod Stopping
pub mod Concat
pub mod Files
pub mod Begins
