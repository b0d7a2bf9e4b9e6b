pub mod Flights
pub mod Firsts
pub mod Hands
pub mod Consumed
pub mod Runs
pub mod Laws
