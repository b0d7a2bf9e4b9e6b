pub mod Adding
pub mod Puts
pub mod Encodings
pub mod Places
pub mod Fitting
pub mod Pieces
pub mod BytesOf
