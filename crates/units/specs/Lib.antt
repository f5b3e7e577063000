pub mod Calls
pub mod Jobs
pub mod Meaning
pub mod Runs
