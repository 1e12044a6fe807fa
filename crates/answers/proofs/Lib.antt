pub mod StepLaws
pub mod SteppedLaws
pub mod MachineLaws
pub mod StandLaws
pub mod EndLaws
pub mod Unique
