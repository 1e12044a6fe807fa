pub mod Passes
pub mod Words
