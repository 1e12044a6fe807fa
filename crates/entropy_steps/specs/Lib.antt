pub mod Given
pub mod DcSteps
pub mod RunSteps
pub mod LevelSteps
pub mod PairSteps
pub mod Standing
