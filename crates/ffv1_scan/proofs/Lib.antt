pub mod LineSteps
pub mod ScanSteps
