pub mod Lists
pub mod Marked
pub mod Pieces
pub mod Cells
pub mod Between
pub mod RunLaws
mod MarkedRuns
pub mod OffsetRuns
pub mod RunSteps
pub mod LeafTaken
pub mod HeadTaken
pub mod TreeTaken
pub mod Kept
pub mod Made
mod Whole
pub mod Worked
