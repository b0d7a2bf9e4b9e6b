pub mod Below
pub mod Crashes
pub mod Histories
