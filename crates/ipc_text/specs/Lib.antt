pub mod Ids
pub mod Types
pub mod Pairs
pub mod Lines
