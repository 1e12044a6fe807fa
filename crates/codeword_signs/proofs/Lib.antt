pub mod SignLaws
pub mod SignExamples
