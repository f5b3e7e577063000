pub mod Flights
pub mod Stops
