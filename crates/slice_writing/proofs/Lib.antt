pub mod RangeLaws
pub mod LaidLaws
pub mod WrittenLaws
