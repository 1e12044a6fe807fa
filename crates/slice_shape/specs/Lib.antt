pub mod Shapes
pub mod Arguments
pub mod Encoding
pub mod Decoding
pub mod Told
