pub mod ByteLaws
pub mod ByteExamples
