pub mod Filters
pub mod Compared
