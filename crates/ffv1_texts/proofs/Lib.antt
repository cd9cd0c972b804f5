pub mod PartSteps
pub mod LineSteps
pub mod NumberSteps
pub mod WordSteps
