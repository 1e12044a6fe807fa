pub mod RangeLaws
pub mod RunLaws
pub mod WritingLaws
