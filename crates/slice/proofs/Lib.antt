pub mod PartLaws
pub mod Demand
