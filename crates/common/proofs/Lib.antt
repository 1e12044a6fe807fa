pub mod Choices
pub mod Integers
pub mod Numbers
pub mod Unique
pub mod Flags
