pub mod Tables
pub mod Defaults
pub mod Nodes
pub mod Serialized
pub mod SlotValues
pub mod Laws
pub mod Texts
