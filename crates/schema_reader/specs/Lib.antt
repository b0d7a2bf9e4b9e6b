pub mod Parts
pub mod ReadViews
pub mod Keyed
pub mod Messages
pub mod Metadata
pub mod Pairs
