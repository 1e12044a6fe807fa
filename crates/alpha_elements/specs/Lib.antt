pub mod Kinds
pub mod Limits
pub mod Values
pub mod Elements
pub mod Decoding
pub mod Answers
