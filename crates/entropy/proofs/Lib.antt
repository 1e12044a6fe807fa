pub mod EncodeLaws
pub mod Demand
