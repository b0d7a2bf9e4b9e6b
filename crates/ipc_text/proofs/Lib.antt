pub mod IdSteps
pub mod PairSteps
pub mod Growing
pub mod LineSteps
