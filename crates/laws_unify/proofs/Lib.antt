pub mod Fits
pub mod Cells
pub mod Parts
pub mod Over
mod Rows
pub mod ValueKinds
pub mod Goes
pub mod ListKinds
pub mod Sound
pub mod Finished
pub mod CarriedKinds
pub mod Unified
