pub mod Rows
pub mod Bits
pub mod Items
pub mod Layouts
pub mod Leaf
pub mod Variable
pub mod Views
pub mod Refusals
