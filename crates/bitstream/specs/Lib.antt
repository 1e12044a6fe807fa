pub mod Bits
pub mod Bytes
pub mod Written
pub mod Reading
pub mod Told
pub mod Puts
pub mod Windows
