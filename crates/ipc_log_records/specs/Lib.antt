pub mod Below
pub mod Passes
pub mod LogSchemas
pub mod Written
pub mod Decoded
