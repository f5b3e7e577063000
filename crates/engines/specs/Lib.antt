pub mod Retirements
pub mod Engines
pub mod Waits
