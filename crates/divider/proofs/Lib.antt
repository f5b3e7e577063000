pub mod Known
pub mod Examples
