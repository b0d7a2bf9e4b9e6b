pub mod Places
pub mod Shifts
pub mod Lists
pub mod Below
