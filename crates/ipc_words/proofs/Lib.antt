mod Building
mod CommandNames
mod DecimalSteps
mod ErrorSteps
mod HelpLemmas
pub mod NumberSteps
mod Parsing
mod WorkedCat
mod WorkedCsv
mod WorkedFile
mod WorkedGen
mod WorkedLog
mod WorkedScan
mod WorkedWords
