pub mod Below
pub mod FilteredScans
pub mod HeldAside
pub mod TakenColumns
pub mod MarkedBatches
mod Worked
