pub mod Counts
pub mod ExactSteps
pub mod Filling
pub mod Fronts
pub mod Kept
pub mod Steps
