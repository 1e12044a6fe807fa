pub mod Numbers
pub mod Slices
