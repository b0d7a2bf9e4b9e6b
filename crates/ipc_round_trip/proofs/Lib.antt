pub mod Below
pub mod Tables
pub mod Numbers
