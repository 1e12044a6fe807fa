pub mod BookLaws
pub mod BookExamples
pub mod LengthLaws
