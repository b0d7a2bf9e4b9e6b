pub mod Below
pub mod Laying
pub mod Putting
mod Headers
mod ColumnSteps
pub mod PlannedMessages
mod Messages
mod ViewCounts
pub mod DictionaryValues
pub mod CompactedViews
pub mod CompactedRows
pub mod Compacted
pub mod Meanings
pub mod Written
mod SameRecords
pub mod Additions
