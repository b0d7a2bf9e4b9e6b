pub mod Below
pub mod Views
pub mod Headers
pub mod Prefixes
pub mod Footers
pub mod Custom
