pub mod Moments
pub mod Noted
pub mod Crashing
