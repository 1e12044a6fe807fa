pub mod ScanLaws
pub mod WeightLaws
pub mod BlendLaws
pub mod WeightExamples
pub mod Unique
