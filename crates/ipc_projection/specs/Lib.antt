pub mod Below
pub mod Places
pub mod Projections
pub mod Selections
