pub mod Prints
pub mod Printing
