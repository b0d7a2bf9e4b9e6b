pub mod Below
pub mod Laws
