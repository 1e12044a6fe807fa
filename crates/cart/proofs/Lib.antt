pub mod CoefficientLaws
pub mod RangeLaws
pub mod Face
pub mod Demand
pub mod SliceDemand
pub mod AlphaDemand
pub mod Unique
