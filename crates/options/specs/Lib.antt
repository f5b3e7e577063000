pub mod Addresses
pub mod Schedule
pub mod Settings
pub mod FaultLines
