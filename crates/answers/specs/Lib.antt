pub mod Refusals
pub mod Reading
pub mod Machine
pub mod Answers
pub mod Told
pub mod Stepped
