pub mod Coefficients
pub mod Matrices
