pub mod Joined
pub mod Sides
pub mod Tags
pub mod Keeps
