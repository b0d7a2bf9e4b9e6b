pub mod Rows
pub mod Runs
pub mod Offsets
pub mod Taken
pub mod Laws
