pub mod Lists
pub mod Over
pub mod United
pub mod Stands
pub mod Single
pub mod Laws
