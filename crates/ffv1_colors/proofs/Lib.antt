pub mod Back
pub mod MoreColors
