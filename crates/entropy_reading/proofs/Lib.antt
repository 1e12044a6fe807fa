pub mod ReadAnswers
pub mod ShownLaws
