pub mod Codewords
pub mod Words
