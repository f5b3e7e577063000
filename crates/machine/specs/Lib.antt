pub mod Causes
pub mod Classes
pub mod Programs
pub mod Records
pub mod States
pub mod Decode
pub mod Step
pub mod Laws
