pub mod Classed
pub mod Waits
