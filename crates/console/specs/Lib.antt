pub mod Digits
pub mod Numbers
pub mod Lines
pub mod ProgramText
pub mod FaultLines
