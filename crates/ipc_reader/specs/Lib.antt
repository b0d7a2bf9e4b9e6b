pub mod Below
pub mod Cursors
pub mod Kept
pub mod Reads
