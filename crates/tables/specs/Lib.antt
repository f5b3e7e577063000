pub mod Buffers
pub mod Waiting
pub mod Tagging
