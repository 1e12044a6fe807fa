pub mod BitLaws
pub mod TableLaws
pub mod Unique
