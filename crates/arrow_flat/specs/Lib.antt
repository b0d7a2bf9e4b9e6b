pub mod Read
pub mod Nodes
