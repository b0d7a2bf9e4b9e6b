mod CellTexts
mod RowTexts
mod KindSteps
pub mod OutputParts
