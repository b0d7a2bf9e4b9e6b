mod Hex
mod Vectors
mod Computed
mod Rows
pub mod Text
pub mod BareFields
mod Digits
