pub mod Scan
pub mod Shapes
