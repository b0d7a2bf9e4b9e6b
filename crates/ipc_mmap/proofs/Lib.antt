pub mod Chunks
pub mod Blocks
pub mod FileDictionaries
