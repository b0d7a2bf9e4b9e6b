pub mod Values
pub mod Writers
pub mod Shown
pub mod Output
