pub mod ExpLaws
pub mod CodeLaws
pub mod ReadCodeLaws
pub mod AnswerLaws
pub mod WordLaws
pub mod Unique
