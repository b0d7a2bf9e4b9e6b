pub mod Below
pub mod Items
pub mod Parts
pub mod Prefixed
pub mod Footers
pub mod Customs
