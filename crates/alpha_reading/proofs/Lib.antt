pub mod StepAnswers
pub mod Standing
