pub mod Cuts
mod SameBuffers
mod SameParts
pub mod NeededParts
mod TooLarge
mod FooterTables
mod FetchedParts
mod TooLargeAt
mod NoRows
pub mod Framed
pub mod Messages
pub mod Lists
pub mod MoreKnown
pub mod MoreBatches
pub mod Ends
pub mod Tables
pub mod CutFiles
