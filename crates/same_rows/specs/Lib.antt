pub mod Lengths
pub mod Below
