pub mod Below
pub mod Steps
