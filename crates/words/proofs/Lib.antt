pub mod Or
pub mod Cut
pub mod Laid
pub mod Held
pub mod Chosen
pub mod Trips
