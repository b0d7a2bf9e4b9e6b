pub mod Below
pub mod Progress
pub mod PassedBlocks
pub mod HeldDictionaries
