pub mod Lifting
pub mod Rows
