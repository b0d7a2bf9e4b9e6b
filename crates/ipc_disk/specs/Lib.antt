pub mod Disks
pub mod Memory
pub mod Tails
pub mod Shelves
pub mod Places
