mod Rows
pub mod Runs
pub mod Recurrence
pub mod Cells
pub mod EachRow
pub mod Batches
pub mod Ids
pub mod Writing
