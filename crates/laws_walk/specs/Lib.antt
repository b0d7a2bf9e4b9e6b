pub mod Below
pub mod Walks
pub mod Places
pub mod Fetching
pub mod Sends
pub mod Summaries
pub mod Laws
