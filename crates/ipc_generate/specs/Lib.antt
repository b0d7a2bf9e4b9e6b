pub mod Table
pub mod Arrays
pub mod Written
