pub mod ComboLaws
pub mod PeekLaws
pub mod PeekExamples
