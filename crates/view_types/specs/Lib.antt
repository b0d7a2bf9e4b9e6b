pub mod Views
pub mod ViewCode
pub mod Falls
pub mod Ranges
pub mod Spans
pub mod Sound
pub mod Tops
