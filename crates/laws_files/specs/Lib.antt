pub mod Below
pub mod Fetched
pub mod FileLaws
pub mod Files
pub mod WrittenLaws
