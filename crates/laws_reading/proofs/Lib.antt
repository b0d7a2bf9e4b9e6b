pub mod Reading
mod Called
mod Projected
