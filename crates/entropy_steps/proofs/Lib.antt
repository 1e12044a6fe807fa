pub mod ElementLaws
pub mod DcLaws
pub mod RunLaws
pub mod LevelLaws
pub mod PairLaws
pub mod ZeroLaws
pub mod StandingLaws
