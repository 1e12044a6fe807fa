pub mod ShapeLaws
pub mod ArgumentLaws
pub mod Unique
