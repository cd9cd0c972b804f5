pub mod Checks
pub mod Headers
pub mod Vectors
