pub mod SameBytes
pub mod SameOffsets
pub mod Below
