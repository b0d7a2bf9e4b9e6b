pub mod Below
pub mod Filtered
pub mod Scan
pub mod Reads
pub mod Scans
pub mod Laws
