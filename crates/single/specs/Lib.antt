pub mod Single
pub mod Laws
