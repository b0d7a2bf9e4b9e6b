pub mod Below
pub mod Line
pub mod ReadBack
