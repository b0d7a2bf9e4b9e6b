pub mod Searches
pub mod Laid
pub mod Nulls
pub mod Keyed
