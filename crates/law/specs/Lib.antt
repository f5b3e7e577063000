pub mod Steps
pub mod Calls
pub mod Pasts
pub mod Laws
