pub mod Saying
pub mod Arguments
pub mod Pages
