pub mod Columns
pub mod Streams
pub mod Plain
pub mod Messages
pub mod Laws
