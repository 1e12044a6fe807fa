pub mod SliceBytesLaws
pub mod Unique
