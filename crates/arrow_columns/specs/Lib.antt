pub mod Named
pub mod Strings
pub mod Optional
pub mod Dictionary
