pub mod Below
pub mod Trims
pub mod CutsOf
pub mod Dictionaries
pub mod Pieces
pub mod Outputs
pub mod OutputsOf
