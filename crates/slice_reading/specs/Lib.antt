pub mod Due
pub mod Settled
