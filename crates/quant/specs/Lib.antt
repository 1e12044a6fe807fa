pub mod Scans
pub mod Tables
pub mod Weights
