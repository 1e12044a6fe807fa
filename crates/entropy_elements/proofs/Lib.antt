pub mod StepLaws
pub mod RoundTrip
pub mod SizeLaws
pub mod RangeLaws
pub mod ValueLaws
pub mod ValueExamples
pub mod ArgumentLaws
