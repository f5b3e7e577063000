pub mod Restoring
pub mod Signs
pub mod Divisions
pub mod States
pub mod Model
pub mod Meets
pub mod ValuesLemmas
pub mod RestoringLemmas
