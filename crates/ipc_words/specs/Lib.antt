pub mod CommandLine
pub mod Commands
pub mod Help
pub mod Numbers
pub mod Filters
pub mod Requests
pub mod Views
