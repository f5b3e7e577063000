pub mod Calls
pub mod FaultLines
pub mod Answers
