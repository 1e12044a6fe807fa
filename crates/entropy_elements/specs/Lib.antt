pub mod Limits
pub mod Elements
pub mod Decoding
pub mod Answers
pub mod Values
