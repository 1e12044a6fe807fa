pub mod PassLaws
pub mod WordLaws
pub mod Unique
